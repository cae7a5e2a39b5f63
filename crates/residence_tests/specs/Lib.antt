pub mod Sound
pub mod Kept
