pub mod Standing
pub mod AtPlaces
pub mod Playing
pub mod Mapping
pub mod Taking
pub mod FaultTouches
pub mod PlayedEntries
pub mod Untouched
