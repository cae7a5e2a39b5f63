pub mod Segments
pub mod Symbols
pub mod Publics
pub mod Comments
