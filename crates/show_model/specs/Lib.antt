pub mod Kinds
pub mod Outlines
pub mod Lists
pub mod Shows
pub mod Laws
pub mod Worked
