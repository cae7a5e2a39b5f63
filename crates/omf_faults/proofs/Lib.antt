-- A reading fails exactly where a part is wrong: step by step, and over lists.
pub mod Told
-- Each field that is read fails exactly where it passes the end or has a value that is not allowed.
pub mod FieldTold
-- The lengths of COMDEF fail exactly where one passes the end or has a first byte that says no width.
pub mod LengthTold
-- The indices of segments that are no debug segments fail exactly where they are wrong.
pub mod PlainTold
-- Lists of items up to the record's end fail exactly where an item does.
pub mod ListTold
-- The records of names, segments, groups and symbols fail exactly where a part is wrong.
pub mod NameTold
-- The comments fail exactly where a part is wrong. "88h COMENT".
pub mod CommentTold
-- The blocks of LIDATA fail exactly where a part is wrong. "A2h LIDATA".
pub mod BlockTold
-- The data records fail exactly where a part is wrong. "A0h LEDATA", "A2h LIDATA".
pub mod DataTold
-- The record of a COMDAT fails exactly where a part is wrong. "C2h COMDAT".
pub mod ComdatTold
-- A fix byte and what stands after it fail exactly where a part is wrong.
pub mod FixTold
-- FIXUPP and MODEND fail exactly where a part is wrong.
pub mod FixupTold
-- The reading of a record's contents, by its type, fails exactly where a part is wrong.
pub mod TypeTold
-- The first fault of a record, a module and a file is told by what is spelled.
pub mod FileTold
-- The contents with two faults each are read, and what is refused is told.
pub mod WorkedTold
