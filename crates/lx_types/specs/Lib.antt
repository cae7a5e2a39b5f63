pub mod Addresses
pub mod Answers
pub mod Bases
pub mod Names
pub mod Object
pub mod Parts
pub mod Sound
pub mod Escaped
