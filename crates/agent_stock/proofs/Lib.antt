mod Codes
pub mod Common
pub mod Keyed
pub mod JoinedRuns
pub mod OneMore
pub mod Serials
pub mod Examples
