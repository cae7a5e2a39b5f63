pub mod Seen
pub mod WordLengths
