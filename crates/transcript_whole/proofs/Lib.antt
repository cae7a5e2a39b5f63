-- Lines of bytes.
pub mod LineCuts
-- What is open of a draft, closed.
pub mod Closings
-- Lists that are written over in place.
pub mod InPlace
-- Where a reader has come to.
pub mod Placed
-- A draft that has the lines of a transcript tells it.
pub mod ReadBack
-- Bytes that begin with the text of lines.
pub mod Texts
-- The line at which no text goes on.
pub mod Faults
-- What a whole transcript tells.
pub mod WholeRuns
-- Lines of a transcript have texts of their own.
pub mod Apart
-- The names of a library's modules.
pub mod LibraryNames
-- A text that is read line by line.
pub mod SoFars
