pub mod TellsOne
