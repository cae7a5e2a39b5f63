pub mod Refusals
pub mod Bundles
