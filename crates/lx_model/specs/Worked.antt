-- Worked values: what the definitions give for bytes and libraries whose meaning was worked out by hand from
-- the format. They stand apart; no definition uses them.
pub mod Records
pub mod Packed
pub mod Tables
pub mod Exports
pub mod File
pub mod Header
pub mod Pages
pub mod Library
pub mod Cycles
pub mod Health
pub mod Resources
pub mod Words
