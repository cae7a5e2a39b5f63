-- ---- words of a line
-- What single blanks separate.
pub mod Splits
-- One word after another.
pub mod Chain
-- What a reader of words has after a step.
pub mod Steps
-- ---- parts of lines
-- Refusals without fields.
pub mod RefusalNames
-- Commands that sessions have.
pub mod Sayable
-- Commands, and what they are answered.
pub mod CommandLaws
-- Parts that are told, as the whole that they are.
pub mod Tellings
-- ---- lines
-- A line is the words that it has.
pub mod LineLaws
-- ---- modules by their names
-- A table with one name more.
pub mod ModuleTables
