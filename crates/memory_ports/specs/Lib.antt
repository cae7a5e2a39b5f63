pub mod Names
pub mod Memory
pub mod MemorySink
pub mod Sure
