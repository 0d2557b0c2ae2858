pub mod Common
pub mod Status
pub mod Sent
pub mod Fsu
