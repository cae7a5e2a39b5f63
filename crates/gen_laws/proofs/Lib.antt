-- ---- ranges of numbers
-- What holds of each item of a list that is made of numbers in their order, by their arithmetic.
pub mod WritableRanges
-- The names and numbers of what a module is linked from have room in their fields.
pub mod FirstRanges
-- ---- the files of a generated module can be written
-- The names and numbers of an object module have room in their fields, so that it has an object file.
pub mod ObjectFiles
-- The references of a module lie on its pieces of data in their order, and none shares a byte with another.
pub mod WritableFixes
-- The object modules can be written as object files.
pub mod WritableModules
-- How many bytes the fixup records of a page have at most, by how many fixups it has.
pub mod ShortRecords
-- How many bytes the sections of a file have at most, by how many items they have.
pub mod ShortSections
-- The file of a module's link is shorter than 2^32 bytes: two pages, at most 2,048 references, one export, and names.
pub mod ShortFiles
-- ---- the link of a generated module
-- The definition file of a module, which is one line, says what is linked.
pub mod LinksDefinitions
-- An input has one link; that of an input without COMDATs is the link of all its modules.
pub mod OneLink
-- No link of a module is refused.
pub mod LinksInputs
-- What every link of a generated module is, whatever its names, its data and its fixups are.
pub mod FirstShape
-- The names of the generator's modules: they are in upper case, short, and differ.
pub mod FirstNames
-- What a module imports: the export of the module before it, by that export's ordinal, and nothing else.
pub mod FirstPairs
-- What is known of each of the first modules: its link, and that a library of them holds what its file means.
pub mod FirstKnown
-- ---- the library of the first modules
-- The first modules are a library: each has its own name, which is that of its number.
pub mod FirstGather
-- What holds of the targets of a link's records holds of the references of the module that is read from its file.
pub mod FirstTargets
-- The first modules are fit: each imports the one before it alone, whose export is there.
pub mod FirstFit
-- Where the first modules stand: module m at 10000000h and m times 10000h, each after those before it.
pub mod FirstPlaces
-- There is something to tell of each number of modules: their links, a library of them, and the places that they take.
pub mod FirstTotals
