-- What an entry leaves of what a board keeps.
pub mod Keeping
-- The residences that stand, found by serial number.
pub mod FoundBySerial
-- What the claim of a page comes to.
pub mod Claiming
-- What a free and an exit leave of what a board keeps.
pub mod Leaving
-- Residences that begin with a start or a load.
pub mod Beginning
-- What a start or a load attaches, and the entries of one that is not done.
pub mod Arriving
-- Bytes that are written and read, and their entries.
pub mod Using
-- Residences that begin are kept, and handed out.
pub mod KeptFrom
-- The residences that a start or a load attaches, found by their places.
pub mod Attaching
