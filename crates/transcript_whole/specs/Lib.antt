pub mod Cutting
pub mod Places
pub mod Drafts
pub mod Readings
pub mod Whole
