-- What the proofs cite of definitions and of lower crates.
pub mod Words
-- Bytes that are copied out of pages and put into them.
pub mod Copies
-- Where pages stand among those that a process has mapped.
pub mod Placing
-- Positions of items in lists: of a page's place in a row, and of the residence of a module.
pub mod Positions
pub mod Naming
-- Writes that are put into the pages that they cover, one page after another.
pub mod Covering
-- Pages of residences, each of which stands once: they stay so.
pub mod Owned
