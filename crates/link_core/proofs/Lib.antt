-- The entries of a link's exports are those that the rules of linking give.
pub mod ExportsAre
-- The image of a link can be written.
pub mod Writable
-- The automatic data object, by the groups of modules.
pub mod AutoData
-- Steps of the loops over exports and names, and the tables with which they begin.
pub mod Steps
-- The plan of a link from its parts, and what its steps refuse.
pub mod Assembled
-- An input of which nothing is taken out, beside the one without its lists of COMDATs.
pub mod Bare
