pub mod Common
pub mod Look
pub mod Reason
