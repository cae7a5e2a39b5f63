mod Short
mod PlainWords
pub mod Lines
mod Sessions
