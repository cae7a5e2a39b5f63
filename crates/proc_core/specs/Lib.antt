pub mod Procs
pub mod Calls
pub mod Touches
pub mod Closing
pub mod Joining
pub mod Turns
pub mod Claiming
