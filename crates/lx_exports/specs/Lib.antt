pub mod Exports
pub mod Marks
pub mod Slots
pub mod Writing
