pub mod Common
pub mod Body
pub mod Command
