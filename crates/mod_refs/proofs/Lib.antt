pub mod Counts
pub mod CountLaws
pub mod Bounded
pub mod KeptCounts
pub mod CountsOfAll
pub mod LegalCounts
