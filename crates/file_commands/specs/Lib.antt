pub mod Doing
pub mod Telling
pub mod Refusals
pub mod Rows
pub mod ImportLibraries
