pub mod Framed
pub mod ImportModule
pub mod Library
pub mod Imports
pub mod ModuleImports
pub mod Worked
