-- What the proofs cite of definitions and of lower crates.
pub mod Words
-- ---- numbers, bytes and places
-- Numbers from one up to before another; bytes inside an object, and the pages that they cover.
pub mod Insides
-- What a view finds by place is what it has by name; what it does not refuse of a place.
pub mod Lookups
-- ---- what a view answers
-- What a view answers by itself: to a query and to the search for a resource, and the bytes of its pages.
pub mod Asking
-- Shared bytes that a process reads: what its own pages hold lies under the writes that all share.
pub mod SharedReads
-- The residences of a view: as they are shown, and as its process has attached them.
pub mod Shown
-- They stand as they were shown after an entry of another process.
pub mod ShownAlike
-- Deeds of a view with a board: what it does not refuse may be asked, and its entry follows.
pub mod Did
-- ---- pages that a view maps
-- A view with one page more stands for the same history; the claim of a page by a view.
pub mod Claims
-- ---- starts and loads
-- The view of a process that has done nothing, with one page more, and with residences more.
pub mod Mapping
-- A view after a start or a load.
pub mod Entered
-- What a start or a load comes to.
pub mod Enters
-- ---- frees and exits
-- A view after a free or an exit.
pub mod Left
