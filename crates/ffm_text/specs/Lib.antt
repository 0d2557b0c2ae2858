pub mod Common
pub mod Ffm
