pub mod Common
pub mod Moves
pub mod Verdict
pub mod Lawful
pub mod Taken
