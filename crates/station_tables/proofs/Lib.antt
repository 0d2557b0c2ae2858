mod Again
mod Attached
mod Looked
mod Migrated
mod Made
mod Restarted
mod Lives
mod Calls
pub mod Common
