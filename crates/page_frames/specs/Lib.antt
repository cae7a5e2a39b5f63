pub mod Frames
pub mod Looks
pub mod Residences
