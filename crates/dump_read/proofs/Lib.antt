-- ---- texts, and what stands around them
-- What stands in front of bytes, and in front of their first line.
pub mod Fronts
-- A value that is read after another one.
pub mod After
-- Texts after which nothing goes on, made of smaller ones.
pub mod Forms
-- Lists of values, each of which begins with one piece.
pub mod Lists
-- Lists, as they are read one value after another.
pub mod Runs
-- What a reader takes at one step.
pub mod Steps
-- ---- words of a line
-- What words tell of names, and what they begin.
pub mod NameLaws
-- Lines, by their first words and their last ones, and pairs of numbers.
pub mod LineTexts
-- ---- lines and whole dumps, as they are read
-- The line of the module, as it is read.
pub mod HeadForms
-- The lines of objects and pages, as they are read.
pub mod ObjectForms
-- The lines of import modules, entries and names, as they are read.
pub mod EntryForms
-- The lines of fixups, as they are read.
pub mod FixForms
-- The values of a dump's lists, each with the lines after its own.
pub mod Elements
-- A whole dump, as it is read.
pub mod WholeForms
-- ---- bytes that are no dump
-- The first lines of bytes, and the ends of lines.
pub mod EndLaws
-- At which line bytes are no dump.
pub mod Refusals
