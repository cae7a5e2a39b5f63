pub mod Residences
pub mod Lending
pub mod TableLending
pub mod Placing
pub mod Called
pub mod Laws
