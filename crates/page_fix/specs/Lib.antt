pub mod Fixable
pub mod Found
pub mod Laid
pub mod Rights
