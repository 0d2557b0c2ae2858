pub mod Line
pub mod Sorted
