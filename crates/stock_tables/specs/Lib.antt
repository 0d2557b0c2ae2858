pub mod Common
pub mod Stocked
