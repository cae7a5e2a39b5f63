pub mod Fields
pub mod Headers
pub mod Pages
pub mod Tables
pub mod Targets
pub mod References
pub mod Reading
