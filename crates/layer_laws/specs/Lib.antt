pub mod Ranges
pub mod LinkedImages
pub mod LoadedBytes
pub mod LinkedFiles
pub mod EntryLaws
pub mod ImportLaws
