pub mod CallLists
pub mod Resident
pub mod EntryCalls
pub mod TableEdits
pub mod Placed
pub mod LegalResidences
