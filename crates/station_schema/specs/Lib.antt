pub mod Common
pub mod Schema
pub mod Connection
pub mod Store
pub mod Tables
