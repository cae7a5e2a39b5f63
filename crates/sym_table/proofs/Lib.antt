-- ---- lists, tables and turns
-- Lists that grow by one item.
pub mod Lists
-- The table of first definitions: one more, and what is found in it.
pub mod FirstOnes
-- Tables of names with a module's number: one more name, and the first module of a name.
pub mod LeaderTables
-- The table of a module's local publics gives what a search of its publics gives.
pub mod LocalTables
-- What is asked of each numbered module, in order: one more module, the first answer, and the externals of all.
pub mod AllModules
-- ---- names and their definitions
-- Second definitions: where there is none so far, one more is judged by the first definition of its name alone.
pub mod Conflicts
-- Communals: one more module's COMDEFs, and one more COMDEF without definition.
pub mod CommunalOnes
-- The longest COMDEF of each name, with one more.
pub mod Greatest
-- What the tables of names give of a name that is not local is what the rules say.
pub mod NamesMean
-- The externals of all modules mean what the rules say, and the first that means nothing is the rules'.
pub mod Externals
-- The exports of all modules as one list, module by module.
pub mod Exports
-- The symbols of a link, and its refusal, from those of its parts.
pub mod WholeLink
-- ---- import pairs
-- The table of import pairs, with one more definition.
pub mod ImportPairs
-- The table of import pairs: one more pair, and the place of one.
pub mod ImportTables
-- ---- the choice of library modules
-- What waits when one more module is chosen.
pub mod Steps
-- Which library module is chosen next: the first that waits.
pub mod Waiting
-- A turn of the loop that chooses modules by an index of names.
pub mod ChoosingByNames
