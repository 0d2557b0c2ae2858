pub mod Common
pub mod Try
pub mod Printed
pub mod Whole
pub mod Content
pub mod Done
