pub mod Taking
pub mod ModuleData
pub mod TakenOut
pub mod Keeping
pub mod Judging
pub mod Aside
pub mod Nothing
