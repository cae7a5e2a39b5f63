-- One more token of a file.
pub mod RunLaws
-- Facts of each item of a list, with one more item and through a map, and that a file of whole statements is whole.
pub mod WholeLaws
-- What of the module's kind holds of all that is read, and that statements can give what was read.
pub mod KindLaws
-- The reading of whole files, computed.
pub mod Compute
-- Reading tokens without their lines.
pub mod SaysLaws
