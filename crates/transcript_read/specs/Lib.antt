pub mod Words
pub mod Taken
pub mod Modules
pub mod Rows
pub mod Ranges
pub mod Refusals
pub mod Commands
pub mod TellsLine
