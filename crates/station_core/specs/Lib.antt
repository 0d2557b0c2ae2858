pub mod Common
pub mod Ends
pub mod Given
pub mod Keeping
pub mod Readers
pub mod Retries
pub mod Step
