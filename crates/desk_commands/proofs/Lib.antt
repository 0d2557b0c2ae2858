pub mod Common
pub mod Ascii
mod BodyLaws
mod Cuts
mod Days
mod EachVerb
mod Examples
mod Fields
mod Fit
mod Free
mod LineLaws
mod Made
mod Steps
mod TextLaws
mod Verbs
pub mod Words
pub mod Written
