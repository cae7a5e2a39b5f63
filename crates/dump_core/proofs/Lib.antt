pub mod ObjectCounts
pub mod ListedLaws
