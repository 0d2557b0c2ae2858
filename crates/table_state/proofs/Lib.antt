pub mod Common
pub mod Passing
pub mod Lifting
pub mod HasMoves
pub mod LineWritten
pub mod OneMore
pub mod NewState
pub mod Putting
pub mod Values
pub mod Changes
pub mod Asked
pub mod Balances
pub mod Announced
pub mod Announcing
pub mod Spans
pub mod StatusParts
mod File
