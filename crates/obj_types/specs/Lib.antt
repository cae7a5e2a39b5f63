pub mod Items
pub mod Location
pub mod Fresh
pub mod Whole
pub mod Definition
pub mod Defaults
pub mod Input
pub mod Data
