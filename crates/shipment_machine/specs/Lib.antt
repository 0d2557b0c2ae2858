pub mod Common
pub mod Book
pub mod Cargo
pub mod Effect
pub mod Lawful
pub mod Announced
pub mod Laws
