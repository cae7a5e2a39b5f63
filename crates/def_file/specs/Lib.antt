pub mod Whole
pub mod Examples
pub mod Stated
