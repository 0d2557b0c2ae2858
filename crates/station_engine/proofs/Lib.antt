mod Numbering
mod Reading
pub mod Common
pub mod Steps
mod Walks
