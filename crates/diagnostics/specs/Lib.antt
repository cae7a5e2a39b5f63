pub mod Help
pub mod Marks
