pub mod Lines
pub mod Bounds
pub mod Dumps
pub mod Listings
pub mod Worked
pub mod Words
