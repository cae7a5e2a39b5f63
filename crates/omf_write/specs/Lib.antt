pub mod Joined
pub mod Lent
pub mod ObjectBytes
pub mod ObjectFits
pub mod ObjectNames
pub mod Writable
pub mod Written
