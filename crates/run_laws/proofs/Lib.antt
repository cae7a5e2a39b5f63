pub mod BuiltResources
pub mod BuiltEntries
pub mod BuiltPages
pub mod BuiltModules
mod Agreeing
