-- ---- what follows from answers, and items of lists
-- What follows from what a call answers.
mod Mapped
-- Items of lists: one form each, and indices of what is there.
mod Listed
-- The fields of records that are written, as bytes spell them.
mod FieldBytes
-- The bytes of fixups, record by record.
mod FixupBytes
-- ---- written records are read as what they were
-- Each name of a written object file has its index.
mod NamesRead
-- Written groups are read as what they were.
mod GroupsRead
-- Written names, segments and groups are read as what they were.
mod SegmentsRead
-- Written externals and publics are read as what they were.
mod SymbolsRead
-- Written imports, exports and default libraries are read as what they were.
mod CommentsRead
-- Written data is read as what it was, with the fixups on it.
mod DataRead
-- A written fix byte and what stands after it are read as their frame, goal and displacement.
mod FixDataRead
-- Written fixups are read as what they were, after the data on which they lie.
mod FixupsRead
-- ---- written modules and libraries are read as what they were
-- Bytes that can stand after an unfinished module, and what they make of it.
mod Goes
-- What is known of each item of a module that is written.
mod ObjectReady
-- A written object file is read as its module.
mod ObjectRead
-- A written import module is read as what it was to be.
mod ImportRead
-- How long a library is, and that it is read as its modules.
mod LibraryRead
-- The pages of lent imports are those of their library.
mod ImportPages
-- Libraries joined are the library of all their modules.
mod JoinedRead
