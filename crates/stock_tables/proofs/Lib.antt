mod Doing
mod Held
mod Restocking
mod Showing
pub mod Common
pub mod Entries
pub mod Lowest
pub mod Meant
pub mod Parted
pub mod Places
pub mod Reading
pub mod Rewriting
pub mod Standing
mod LastRows
