pub mod OneModule
pub mod Unused
pub mod Stands
pub mod Loads
pub mod PageRows
pub mod Full
pub mod OneWorld
pub mod MemoryIs
