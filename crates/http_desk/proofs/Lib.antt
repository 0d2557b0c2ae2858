mod Accepting
mod Answered
mod Arrived
mod AskedJson
mod Beginnings
mod Endings
mod Begun
mod Checked
mod Examples
mod FieldLaws
mod Heads
mod Joining
mod KeyPrinted
pub mod Common
pub mod KeySegments
mod NoVerb
pub mod Segments
mod Paths
pub mod Printed
mod Reporting
mod Wanting
mod WholeWaybill
