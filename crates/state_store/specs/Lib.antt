pub mod Common
pub mod Asked
pub mod Store
pub mod Status
