pub mod Told
pub mod TextFault
pub mod Places
pub mod Checks
pub mod Laws
pub mod Worked
