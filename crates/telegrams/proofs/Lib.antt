pub mod Common
pub mod Meanings
pub mod Bounds
pub mod PlainLines
pub mod RefusedLaws
pub mod KnownLines
pub mod NoticeLaws
pub mod Examples
