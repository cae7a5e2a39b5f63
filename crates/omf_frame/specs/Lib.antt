pub mod RecordType
pub mod Frame
pub mod Delimited
pub mod Refusal
