pub mod Fields
pub mod Turns
pub mod Finishing
