pub mod Common
pub mod Attached
pub mod Called
pub mod Lives
