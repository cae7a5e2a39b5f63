-- ---- views, boards and places

-- how many entries a view was shown decides none of its refusals
pub mod Fronts
-- page numbers within a place
pub mod Ranges
-- a view of the process whose item comes next, brought to what the laws of places want
pub mod ViewsAtPlaces
-- the views of the other processes, after an item
pub mod OtherViews
-- the command that an item is for
pub mod NextCommands
-- views of processes that have done nothing
pub mod NewViews
-- what is played with one view, among all
pub mod PlayedAlone
-- ---- items by kind

-- steady lines that are no accepted touch
pub mod SteadyLines
-- pages that a view maps, one after another, in a residence that its process reaches
pub mod MappedPlaces
-- accepted touches, judged by a board and a view
pub mod AcceptedTouches
-- the residence in which a fault is
pub mod FaultResidences
-- a fault that was taken, or had its entry before
pub mod TakenFaults
-- faults, judged
pub mod PlayedFaults
-- entries of commands, judged
pub mod PlayedEntries
-- reads of shared bytes whose pages were not touched
pub mod UntouchedReads
-- the pages of such a place, mapped
pub mod UntouchedPlaces
