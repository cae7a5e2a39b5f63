pub mod Bridge
pub mod BuiltResources
pub mod BuiltModules
