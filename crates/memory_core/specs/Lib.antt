pub mod Addresses
pub mod Brought
pub mod Objects
