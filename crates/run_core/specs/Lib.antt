pub mod Carrying
pub mod Tasks
pub mod Sessions
