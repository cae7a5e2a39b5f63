pub mod Linking
pub mod Fixing
pub mod Meant
pub mod Generated
pub mod Doing
