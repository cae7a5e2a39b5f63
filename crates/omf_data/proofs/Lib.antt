pub mod Touched
pub mod Ended
mod Places
pub mod Stay
mod Added
mod Placed
mod StraightRead
pub mod Onto
mod Measured
mod Expanded
mod IteratedRead
