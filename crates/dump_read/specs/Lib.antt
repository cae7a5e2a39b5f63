pub mod Taken
pub mod Settled
pub mod Sequences
pub mod Words
pub mod Names
pub mod Parts
pub mod Lists
pub mod Ends
