pub mod Numbers
pub mod Layouts
pub mod Laws
