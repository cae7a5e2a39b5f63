pub mod Counts
pub mod LoadCounts
pub mod CountLaws
pub mod AllCounts
pub mod Changes
pub mod Laws
