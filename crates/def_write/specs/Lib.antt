pub mod Spelling
pub mod Names
pub mod Writing
pub mod Quotable
pub mod Examples
