pub mod Firsts
pub mod NumberedItems
pub mod Fronts
pub mod Following
pub mod NextCommands
pub mod RightRuns
pub mod FaultLines
