-- ---- the definitions, opened and tried on small inputs
-- All definitions of a link opened at once: `unfolding rules` computes with them.
pub mod Rules
-- Small inputs on which the definitions are tried.
pub mod Samples
-- Choosing and symbols, tried on small inputs: each line is a value that the rules give by hand.
pub mod TrialsOfSymbols
-- Layout, tried on small inputs: each line is a value that the rules give by hand.
pub mod TrialsOfLayout
-- Values and bytes, tried on small inputs: each line is a value that the rules give by hand.
pub mod TrialsOfValues
-- Patches and records, tried on small inputs: each line is a value that the rules give by hand.
pub mod TrialsOfRecords
-- Exports, their refusals and the order of all refusals, tried on small inputs.
pub mod TrialsOfExports
-- That nothing is dropped, computed on a small input with an external of each kind and fixups to all of them.
pub mod TrialsOfLaws
-- ---- facts of lists, tables and bytes
-- What is in a list: by tests, and through `map`, `filter`, `flat_map` and `++`.
pub mod Members
-- Tables by first appearance: one more item, look-ups, and that no key stands twice.
pub mod Tables
-- Bytes and numbers of the smallest link, in the words of std.
pub mod PlainBytes
-- A value has as many bytes as its location.
pub mod ValueLengths
-- Keys of logical segments, of objects and of imports are equal where their tests say so.
pub mod KeyTests
-- ---- the smallest link
-- The smallest link: where its fixups and its data stand, which fixups are live, and its bytes.
pub mod SmallestLink
-- The law of the smallest link, put together.
pub mod OneSegmentLaw
-- ---- the choice of library modules
-- The first library module that is drawn.
pub mod Searching
-- How the list of chosen modules grows, and why it ends.
pub mod Growing
-- Two lists of chosen modules of one input are the same: neither has a first place at which they differ.
pub mod OneChoice
-- ---- nothing is dropped
-- The ends of objects, and their sum, with one more row.
pub mod RowEnds
-- What rows that pass no limit have, and the highest base of a link.
pub mod RowLimits
-- Each part of a link has a row, and lies in what its row has.
pub mod RowsStand
-- Each segment outside debug and each communal is a part of the link, and so stands in an object.
pub mod SegmentsStand
-- Each external of a link whose names are not refused has a meaning, and each meaning is there.
pub mod ExternalsMean
-- Live fixups share no byte, and patches need no base.
pub mod LiveFixups
-- The bytes of a live fixup's location are those of its value.
pub mod LiveMeans
-- All fixups and exports of a whole link whose names are not refused have a target and a place.
pub mod FixupsStay
-- All data of a whole link's modules has a place.
pub mod PiecesStay
-- Each live fixup that is not patched has a record.
pub mod RecordsStay
-- There is one export for each that is asked, and the chosen modules of a whole input are whole.
pub mod ExportsStay
-- In the table of procedure names each name stands at its offset.
pub mod NamesAtOffsets
-- ---- what is kept of an input with COMDATs
-- What is kept of a whole input is whole: a segment that is taken out is named by nothing that stays.
pub mod KeptWhole
-- Of an input without COMDATs all is kept, and none of it clashes.
pub mod AllKept
