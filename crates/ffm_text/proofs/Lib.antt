pub mod Common
pub mod LastLine
pub mod Examples
pub mod Laws
pub mod Appended
pub mod ScanLaws
pub mod ToldLaws
pub mod WrittenLaws
pub mod SentAgain
mod KnownLoads
