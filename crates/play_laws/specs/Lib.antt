pub mod ViewAnswers
pub mod MappedPages
pub mod FaultAsks
pub mod CommandAsks
