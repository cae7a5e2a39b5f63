pub mod Begun
pub mod Data
pub mod Ends
pub mod Expanding
pub mod Marks
