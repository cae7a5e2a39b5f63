pub mod Progress
pub mod Commands
pub mod Ends
