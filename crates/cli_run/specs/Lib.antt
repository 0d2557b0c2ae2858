pub mod Common
pub mod Lines
pub mod Requests
pub mod Ends
pub mod Done
pub mod Seen
