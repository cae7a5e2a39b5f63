pub mod AnswerLaws
pub mod SmallestObjects
pub mod RunLaws
pub mod CheckLaws
