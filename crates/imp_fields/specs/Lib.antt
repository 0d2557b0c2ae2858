pub mod Common
pub mod Fields
pub mod Message
pub mod Checks
