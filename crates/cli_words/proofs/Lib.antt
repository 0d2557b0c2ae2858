mod Examples
mod Services
pub mod Sorting
