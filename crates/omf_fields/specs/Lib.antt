pub mod Within
pub mod Fields
pub mod Forms
pub mod Spans
pub mod Taking
pub mod Onto
pub mod Faults
