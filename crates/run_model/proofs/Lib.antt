pub mod Standing
pub mod Resources
