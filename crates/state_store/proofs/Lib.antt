mod Ahead
mod AnnouncedOrder
mod BookLists
mod Examples
mod Copies
mod Filled
pub mod Common
pub mod InOrder
mod KeptRows
pub mod Keyed
mod Listed
mod MapExamples
mod Meant
mod Named
mod NotedOrder
mod Numbered
mod Posting
mod Serials
mod Steps
mod StillOk
mod Stored
mod Surviving
pub mod Tied
pub mod Statuses
pub mod Walks
mod Writing
mod Below
