pub mod Sorting
pub mod LineCounts
pub mod Standing
pub mod Counted
pub mod Orders
