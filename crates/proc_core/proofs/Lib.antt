-- What the proofs cite of definitions and of lower crates.
pub mod Words
-- ---- histories and their processes
-- A process that has done nothing.
pub mod Beginnings
-- One more pass is joined into the first.
pub mod Endings
-- Entries of others, told by filters.
pub mod Others
-- The history of a loader that closed over its processes.
pub mod Histories
-- The residences of a process stand as they were shown while others go on.
pub mod ShownOn
-- What a process is answered by its view, or refused, is what the loader answers at its front.
pub mod Fronts
-- ---- turns of a process
-- The board comes to a process.
pub mod Coming
-- What a command asks that is not refused, and what its entry says.
-- What a turn comes to.
pub mod Made
-- What a call in a turn is answered.
pub mod Turning
-- The bytes that a shared read gives are those of the process's last entry.
pub mod ReadLast
-- ---- touches, page by page
-- The pages of a place whose touch is accepted.
pub mod Places
-- The pages of a place, one after the other.
pub mod TouchedPages
-- A touch goes on by one page.
pub mod Onward
-- A page that is claimed in a turn, and mapped after it.
pub mod Claims
-- A page that is claimed in a turn.
pub mod PageTurns
-- A page that is mapped after its claim.
pub mod MappedAfter
-- How far a touch has come, with the turns that it took.
pub mod TouchedTo
-- One page of a residence, from the room for it to the page that is mapped.
pub mod TouchedPage
-- One round of a touch: the next page of the place.
pub mod TouchLoop
