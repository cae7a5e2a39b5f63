pub mod LinesAbove
pub mod Firsts
pub mod MergeStates
pub mod HeldMerges
pub mod Readings
pub mod Bounded
pub mod UsedPages
pub mod KeptText
