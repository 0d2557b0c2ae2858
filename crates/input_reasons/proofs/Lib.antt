pub mod Common
pub mod Front
pub mod LookLaws
pub mod LowerLines
pub mod Printable
pub mod Texts
pub mod Told
