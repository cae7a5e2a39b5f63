pub mod Binding
pub mod Serving
