pub mod Attached
pub mod ViewAnswers
pub mod MappedPages
pub mod CommandAsks
