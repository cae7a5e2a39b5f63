-- All definitions of a link and of its file opened at once: `unfolding rules` computes with them.
pub mod Rules
-- Sections lie in the file: their places and sizes have 32 bits where the file's length has.
pub mod Places
-- The header of a file has the fields that were written.
pub mod HeaderRead
-- Where the sections of a file stand.
pub mod Standing
-- The fields of a written header, by their offsets.
pub mod Fields
-- The page table of a file is read as the forms of its image.
pub mod PagesRead
-- The fixup page table of a file leads to the records of each page.
pub mod SpansRead
-- The tables of a file are read as those of its image.
pub mod SectionsRead
-- The fixup records of a file's pages are read as those of its image.
pub mod RecordsRead
-- The parts of a written file are those of its image.
pub mod PartsRead
-- A written file has no fault in its header, its names, its imports, its entries and its start.
pub mod Faultless
-- A written file has no fault in its object table and its fixup page table.
pub mod TablesFaultless
-- A written file has no fault in its page table and its page data.
pub mod PagesFaultless
-- A written file has no fault in its fixup records.
pub mod RecordsFaultless
-- The file of an image means the module that its parts are.
pub mod FilesRead
-- The file of a link is read as what the link says.
pub mod LinksRead
-- The tables of a link's image fit each other.
pub mod LinkTables
-- The object of each row of a link is there, and its number fits the entry table.
pub mod ObjectsThere
-- The objects that fixups, exports and the start lead to are there.
pub mod TargetsThere
-- A link's import tables are no longer than the list of modules that it knows, which the format's numbers count.
pub mod FewImports
-- The fixup records of a link can be written, and what they name is there.
pub mod RecordsFit
-- How many pages and fixups a link's module has, by its fixups of each page of each object.
pub mod PageCounts
