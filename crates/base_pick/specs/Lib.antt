pub mod Places
pub mod WorkedPlaces
pub mod LeastPlaces
