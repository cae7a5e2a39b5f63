pub mod HeldPages
pub mod PageRows
pub mod ReachedResidences
pub mod Reading
pub mod ResidenceFinders
pub mod Writing
