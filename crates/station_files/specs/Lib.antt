pub mod Common
pub mod Backing
pub mod Opened
pub mod Listed
pub mod Others
pub mod Ways
