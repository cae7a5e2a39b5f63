mod Letters
pub mod Ordinals
pub mod Answered
pub mod Bools
pub mod Options
pub mod Lists
pub mod Failing
