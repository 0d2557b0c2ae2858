pub mod Common
pub mod Finished
pub mod Carried
pub mod Laws
pub mod Compared
pub mod Walk
