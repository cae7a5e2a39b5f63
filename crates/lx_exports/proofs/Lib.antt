pub mod BundleFront
pub mod FreeOrdinals
mod NamesApart
mod NamesWritten
pub mod GivenOrdinals
mod SlotsFilled
pub mod TablesWritten
mod TablesRead
