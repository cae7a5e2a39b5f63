pub mod FieldLoop
pub mod Places
pub mod Numbers
pub mod Headers
pub mod Written
