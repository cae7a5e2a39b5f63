pub mod Lines
pub mod LinesOf
pub mod Following
