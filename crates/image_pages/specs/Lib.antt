pub mod Memory
pub mod Alone
