pub mod Memory
pub mod Laws
pub mod Worked
