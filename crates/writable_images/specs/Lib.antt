pub mod Bytes
pub mod Named
