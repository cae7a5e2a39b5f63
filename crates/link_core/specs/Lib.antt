pub mod Failed
pub mod Links
pub mod Exports
pub mod Ranges
pub mod Parts
pub mod Planned
