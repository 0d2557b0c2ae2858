pub mod Common
pub mod Held
pub mod Upgrade
