-- ---- lists by places
-- Items of lists by their places.
pub mod Gets
-- Two lists side by side.
pub mod Zipped
-- The places of numbers are those of the list.
pub mod GatheredPlaces
-- The tables of logical segments have one item for each.
pub mod TableLengths
-- ---- parts and logical segments
-- No two parts of a link have the same origin.
pub mod OriginsOfParts
-- Parts of one logical segment have the same flags.
pub mod AgreeingParts
-- The parts of each logical segment with one part more.
pub mod PartsBySegment
-- The first parts of logical segments stand for all parts: groups are split in both ways of counting.
pub mod HeadsStand
-- The logical segments of a link by their numbers.
pub mod OrderedSegments
-- The order in which the logical segments of a link stand, by their numbers.
pub mod StandingOrder
-- The logical segments of a link with their objects, their parts and their least lengths.
pub mod UnitsOfLinks
-- One more logical segment with its object.
pub mod UnitsMore
-- ---- use of 16 and of 32 bits
-- The walk over the parts of a link: the first part of mixed use ends it.
pub mod UseWalk
-- The walk over parts that finds the first of mixed use.
pub mod MixedUse
-- ---- groups
-- Which groups the logical segments are in, with one member more.
pub mod GroupPlaces
-- The first group of a logical segment is that with the least place.
pub mod FirstGroups
-- The marks of split groups with one logical segment more.
pub mod SplitMarks
-- The groups of logical segments, as the rules of linking see them.
pub mod LinkGroups
-- The object of each group, from those of its logical segments.
pub mod PlacedGroups
-- ---- the stack
-- The linker's own stack is the last logical segment, and no other part is of it.
pub mod OwnStackLast
-- The first logical segment that has a stack.
pub mod StackSearch
-- ---- objects
-- The number of an object is the place of its key.
pub mod NumbersOfObjects
-- Objects are numbered by first appearance.
pub mod ObjectTable
-- The sizes and the flags of objects.
pub mod ObjectSizes
-- ---- rows and places
-- The rows of a link, by the numbers of its logical segments.
pub mod RowsOfLinks
-- The row of each part of a link, and what it says.
pub mod PartRows
-- The places of parts with one part more.
pub mod PartWalk
-- The places of segments and communals, with one more.
pub mod SegmentSpots
-- Segments and communals are found among the parts of a link by their origins.
pub mod SpotsFound
-- The places of a link from those of its parts and of its logical segments.
pub mod PlacesFound
-- ---- the layout and its refusal
-- What is checked of logical segments and groups is what the rules say of a link.
pub mod CheckedSegments
-- A layout by logical segments in order is that of the link.
pub mod LaySegments
-- Rows, sizes and the stack of logical segments in order.
pub mod LayOrdered
-- The layout of a link by its logical segments in order.
pub mod LaidLinks
-- The first refusal of a layout.
pub mod Refusals
