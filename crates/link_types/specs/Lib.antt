pub mod Links
pub mod Globals
pub mod Symbols
pub mod Binding
pub mod Finding
pub mod Places
pub mod Layout
