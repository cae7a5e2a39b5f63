pub mod Meanings
pub mod Fixed
pub mod Judged
pub mod PlacedData
pub mod Placing
