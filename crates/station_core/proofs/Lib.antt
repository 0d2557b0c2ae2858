pub mod Common
pub mod Asked
mod Examples
mod Keys
pub mod Mapped
pub mod Premise
mod RangeLaws
mod Reading
pub mod Refusals
mod RetryLaw
pub mod Rising
mod RunLaw
mod Runs
pub mod StepLaw
mod Walks
pub mod Rooms
