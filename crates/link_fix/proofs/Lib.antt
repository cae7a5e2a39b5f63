-- Rows of bytes.
pub mod ImageRows
-- Values that no base changes.
pub mod PatchValues
-- No refusal is each fixup's acceptance.
pub mod AcceptedFixups
-- What is left of fixups gives the same bytes and the same records.
pub mod BareFixups
-- The start among the objects of a link.
pub mod StartPlaces
-- The pages of a link are made.
pub mod PagesMade
-- From fixups and pieces at their places to the pages of a link.
pub mod LinkPages
-- One more record on a page of a row.
pub mod PageRows
-- A row that is cut to some pages, or filled up to them, as lists.
pub mod PageLists
-- One more fixup's records, and one more object's.
pub mod PagedFixes
-- One more pair in the import tables.
pub mod PairTables
-- Names that are pushed, each once.
pub mod FirstTables
-- Lists of numbered items, one item longer.
pub mod NumberedLists
-- Data at its place, and the fields over it.
pub mod PaintedFields
-- One more piece of data.
pub mod PaintedPieces
-- Marks say which fixups share a byte with one.
pub mod MarkedBytes
-- Fixups that stand in order are all live.
pub mod OrderedFixups
