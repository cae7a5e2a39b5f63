pub mod Overlays
pub mod Layering
