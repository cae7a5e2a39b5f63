pub mod More
pub mod FirstEntry
pub mod Residences
pub mod HeldBytes
pub mod HeldModules
pub mod Addressed
