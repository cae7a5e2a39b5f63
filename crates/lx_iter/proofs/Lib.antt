pub mod Repeats
pub mod Groups
pub mod Periods
pub mod Runs
pub mod Unpacking
