pub mod Common
pub mod Serving
