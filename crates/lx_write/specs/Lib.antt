pub mod Offsets
pub mod Growing
pub mod Value
pub mod Sections
pub mod LinkImages
pub mod WrittenLaws
