pub mod Statements
pub mod Rules
pub mod Sayings
pub mod Sentences
pub mod Faults
pub mod Worked
pub mod Laws
