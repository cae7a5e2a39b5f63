pub mod Field
pub mod FixData
pub mod Methods
pub mod Placed
pub mod Found
