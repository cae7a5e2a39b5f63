-- What a call answered that was refused.
pub mod Answered
-- A module that was read has at most 1,024 objects.
pub mod FewObjects
-- Functions that agree on a range of numbers, and words that are made of bytes that agree.
pub mod Ranges
-- One piece of text more, of those of numbers in their order.
pub mod Further
-- An object module whose parts are those of another is the other.
pub mod Parts
-- The words of an object, page by page, and their sums.
pub mod Words
-- The words of the pages that are fixed are those that the links mean.
pub mod Meant
-- One module more is linked, after those before it.
pub mod Linked
-- What was saved so far.
pub mod Saved
-- Where modules stand that were placed, in an arena in which nothing else is.
pub mod Placed
-- The files of one module more, and all of them, before any is saved.
pub mod MadeFiles
