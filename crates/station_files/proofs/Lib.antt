mod ByList
mod Ended
mod EntryNames
mod Once
mod Opened
mod Others
mod OthersStay
mod OwnFiles
mod OwnListing
mod OwnReading
mod Owning
mod SameReading
mod Ways
mod StationRows
mod StationTrees
mod Unstarted
pub mod Common
