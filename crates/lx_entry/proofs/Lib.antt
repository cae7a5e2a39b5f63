pub mod ImportLoop
pub mod EntryLoop
pub mod Refusals
pub mod BundleLoop
pub mod NameLoop
