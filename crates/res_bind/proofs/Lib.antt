pub mod Headers
pub mod Multiples
pub mod Lists
pub mod Sizes
pub mod Facts
pub mod Written
pub mod Kept
