pub mod Alike
pub mod Seen
pub mod Whole
pub mod Growing
pub mod Leading
pub mod Steps
pub mod OwnStates
pub mod Views
