pub mod Common
pub mod Shown
pub mod Handing
