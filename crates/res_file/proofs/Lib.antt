pub mod GoodItem
pub mod Progress
