pub mod Sources
pub mod BuiltModules
pub mod Standing
pub mod Resources
