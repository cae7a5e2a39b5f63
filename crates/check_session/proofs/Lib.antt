pub mod Checks
pub mod Judging
