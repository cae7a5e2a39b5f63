-- Lists that grow by one item.
pub mod Lists
-- Tables by first appearance that hold keys of the program in place of those of the rules.
pub mod Tables
-- Names of logical segments are equal where the rules' keys are the same.
pub mod Names
-- Tables of names, and one more name.
pub mod NameLists
-- Ends of parts grow, and what passes 16 MiB once stays past it.
pub mod PartEnds
-- Lists by the numbers below a count.
pub mod Ranges
-- What is kept of the ends of objects, and of their sum, with one more row.
pub mod EndSums
-- The walk over logical segments: what a row more adds, and what the first one past a limit decides.
pub mod Walk
-- Names of objects are equal where the rules' keys are the same.
pub mod ObjectNames
-- Objects one after another, with one more.
pub mod Bases
-- The contribution with an index of a module.
pub mod Listed
-- The steps of a layout are those of the rules.
pub mod StepsAreRules
-- Logical segments class by class, by the numbers of their classes.
pub mod ClassOrder
-- A part is in a group where its logical segment is a member.
pub mod GroupMembers
-- The names of the logical segments of DGROUP, with one more member.
pub mod DgroupNames
