-- ---- the fields of records
-- A target is a number, and after it what its kind has besides.
pub mod Targets
-- ---- offsets, steps and lists of sources
-- One offset after another.
pub mod Offsets
-- One record after another.
pub mod Steps
-- Filters of lists whose items all pass, or none.
pub mod Filters
-- The offsets of a list's sources have a byte in the page.
pub mod Others
-- The places of sources in their lists, counted source by source.
pub mod Counts
-- Sources that share no byte have one order by offset.
pub mod Sorting
-- ---- sources that share a record
-- What the sources of a list share is compared by its fields.
pub mod Shared
-- The derived comparison is that by fields.
pub mod Derived
-- The next source of a list, from the first ones of those after a source.
pub mod Linked
-- Sources that join differ in their offsets alone.
pub mod Joined
-- The record that a source begins, from the offsets of the sources that share what it has.
pub mod Grouping
-- The record that a source begins, and the offsets that it lists.
pub mod Beginning
-- The lists of a page have its sources: those that join a source, and those that cross an end of the page.
pub mod Kept
-- ---- what is written fits and is read again
-- One more item after those that were written.
pub mod Written
-- The shortest sizes have room for the numbers of a fixup that can be written.
pub mod Fits
-- The records of fixups that can be written fit, so that they are read again.
pub mod RecordsFit
-- The records of a page, one source after another.
pub mod Pages
-- The records of a page have its fixups in another order.
pub mod Permuted
-- The records of a page are read as its fixups, wherever they stand.
pub mod PageRead
