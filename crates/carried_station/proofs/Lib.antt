pub mod Sums
pub mod Kept
pub mod Late
pub mod Named
pub mod Unfinished
pub mod Walked
pub mod Judged
mod Examples
