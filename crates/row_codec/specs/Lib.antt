pub mod Common
pub mod Flights
pub mod Stored
pub mod Known
