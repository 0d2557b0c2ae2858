pub mod Common
pub mod AnySchema
pub mod Declared
pub mod Orders
pub mod RawLemmas
pub mod StationLemmas
pub mod TableLemmas
pub mod Texts
pub mod TypedLemmas
pub mod WalkLemmas
pub mod WalkLoops
pub mod WholeLemmas
mod UpgradeTexts
mod Adding
mod Copying
mod Upgrading
