-- ---- computing and lists
-- The reading of whole files, computed.
pub mod Compute
-- Multiples of a page's size.
pub mod PageLaws
-- Each pair of a list, and the copies of an offset in blocks.
pub mod PairLaws
-- What holds of a module holds when its lists grow.
pub mod GrowLaws
-- The places of a number in joined and repeated lists.
pub mod PlaceLaws
-- Fields, records and modules, read turn after turn.
pub mod TurnLaws
-- ---- records: what is read is spelled so, and what is spelled so is read
-- A record's bytes: what is taken for a record is one, and a record is taken for what it is. "Record Format".
pub mod RawLaws
-- Indices of segments that are no debug segments: what is read is spelled so and good, and what is so is read.
pub mod PlainLaws
-- The records of names, segments and symbols: what is read is spelled so and good, and what is so is read.
pub mod NameLaws
-- The comments: what is read is spelled so and good, and what is so is read. "88h COMENT".
pub mod CommentLaws
-- The blocks of LIDATA: what is read is spelled so, and what is spelled so is read. "A2h LIDATA".
pub mod BlockLaws
-- The data records: what is read is spelled so and good, and what is so is read. "A0h LEDATA", "A2h LIDATA".
pub mod DataLaws
-- The record of a COMDAT: what is read is spelled so and good, and what is so is read. "C2h COMDAT".
pub mod ComdatLaws
-- A fix byte and what stands after it: what is read is spelled so and good, and what is so is read.
pub mod FixLaws
-- The fields of FIXUPP and the end of a module: what is read is spelled so and good, and what is so is read.
pub mod FixuppLaws
-- The next record: what is read is spelled so and good, and what is so is read.
pub mod RecordLaws
-- ---- modules and libraries
-- What the records say together, one record after another.
pub mod PartsLaws
-- The module that an unfinished one without COMDATs is at its end: it is that very module.
pub mod EndLaws
-- A module's records: what is read is spelled so, and what is spelled so is read; and the first fault.
pub mod ModuleLaws
-- Libraries: what is read is meant, and what is meant is read. "Microsoft LIB Library Format".
pub mod LibraryLaws
-- ---- faults
-- The first fault of a library.
pub mod LibraryFaults
-- What is read stays in its record: so do cursors, and so do the places of refusals.
pub mod StayLaws
-- The fault of a record lies in the record.
pub mod PlacedLaws
-- ---- what is read is whole
-- The numbers of an unfinished module's segments: what they name when its lists grow.
pub mod NumberLaws
-- What good records keep: the module so far is whole, and so are the threads and the last data.
pub mod SaneLaws
-- A good record keeps an unfinished module whole, so what is read is whole.
pub mod SaneStep
-- A good record of a COMDAT keeps an unfinished module whole.
pub mod ComdatSane
-- An unfinished module goes on: what good records keep of it.
pub mod BegunLaws
-- What an unfinished module's numbers name is there in the module that it is at its end.
pub mod FinishedLaws
-- What is read is whole.
pub mod WholeLaws
-- A definition file, a module and a link's input that are whole.
pub mod WholeValues
-- ---- copies of fixups in the blocks of LIDATA
-- Copies of an offset in LIDATA's blocks: what follows it follows each copy, so copies are apart.
pub mod CopyLaws
-- The copies of an offset, found without expanding the blocks, and when two locations on blocks meet.
pub mod CopiesLaws
-- A fixup with more copies than a module may have fixups: they are counted and not made.
pub mod TooManyLaws
