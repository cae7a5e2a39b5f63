pub mod Visiting
pub mod Faults
pub mod Gathering
pub mod Names
