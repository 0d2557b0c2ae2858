pub mod Common
pub mod Meaning
