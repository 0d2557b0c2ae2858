pub mod Fields
pub mod Stock
pub mod Plain
