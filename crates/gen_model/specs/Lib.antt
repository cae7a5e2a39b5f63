pub mod Modules
pub mod Sessions
pub mod Sums
pub mod WorkedModules
pub mod WorkedSessions
pub mod WorkedSums
