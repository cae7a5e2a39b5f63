pub mod Gaps
pub mod Placing
pub mod Least
