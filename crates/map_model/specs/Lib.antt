pub mod Listed
pub mod Lines
pub mod Maps
pub mod MapLaws
pub mod Worked
