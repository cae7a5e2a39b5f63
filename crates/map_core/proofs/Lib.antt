pub mod Loops
pub mod Sorted
pub mod Assembled
mod MapOfPlan
mod Bare
