pub mod Walk
pub mod Names
mod LinkInput
mod Readers
mod Items
