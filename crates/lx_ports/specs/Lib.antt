pub mod Calls
pub mod CallCode
pub mod Notes
pub mod Files
pub mod Sinks
pub mod Counts
