pub mod Common
pub mod Request
pub mod Keys
pub mod Reply
pub mod Came
