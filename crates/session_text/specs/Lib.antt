pub mod Deeds
pub mod Parts
pub mod Writable
