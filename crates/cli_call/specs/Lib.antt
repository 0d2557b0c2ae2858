pub mod Common
pub mod Ran
pub mod Ended
pub mod OneFile
