pub mod LittleEndian
pub mod Cursor
