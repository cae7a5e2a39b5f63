-- ---- facts of lists and inputs
-- Lists and tests that the other pages use.
pub mod Lists
-- Lists whose items are apart: no item equals one after it.
pub mod Apart
-- What is kept of an input has the numbers that it has, and the import library of a definition file is kept whole.
pub mod KeptInputs
-- What is known of the link of an input that links.
pub mod Given
-- ---- the image of a link fits the format
-- The objects of a link whose layout is not refused are at most 1,024, and at most 16 MiB together.
pub mod Sizes
-- The object table of a link fits its fields, and its pages are few.
pub mod Objects
-- The pages of a link have the room that a page has.
pub mod Forms
-- What the imports, the exports and the places of a link have.
pub mod Known
-- The offsets of names lie in their table.
pub mod NameOffsets
-- The exports of a link fit the name tables and the entry table.
pub mod Exports
-- The names of a link fit the name tables: the module's, the description, those of exports and of import modules.
pub mod Names
-- The bundles of a link's exports fit the entry table.
pub mod Entries
-- The fixup records of a link fit the record table, and their targets are there.
pub mod Records
-- What the targets of a link's fixup records name is there.
pub mod Targets
-- The start, the stack, the automatic data and the module flags of a link fit their fields.
pub mod Places
-- The image of a link fits the format, so that its file is read again.
pub mod ImagesFit
-- What the file is that a link answers.
pub mod LinkedFiles
-- ---- the bytes of loaded pages are those that the link means
-- Where the pages of each object stand in the page table.
pub mod TablePages
-- The bytes of a page, as the file of a link has them, are those that stand in the link's objects before the loader.
pub mod RawBytes
-- The sources of a page, as the file of a link has them, are the link's fixup records of that page.
pub mod PageSources
-- The bytes that a link means, where no fixup is left to the loader and where one is.
pub mod MeanBytes
-- The byte of a page with its fixups, by what each of its sources puts there.
pub mod FixedBytes
-- What the fixup records of a link put into a page, byte by byte.
pub mod RecordBytes
-- The bytes of a page under the bases of a load: where no fixup is left to the loader, and where one is.
pub mod LoadedPages
-- A fixup record to a place in the link puts there what the fixup means.
pub mod FieldsAgree
-- Where a fixup record covers a place and puts there what the fixup means, the loaded byte is what the link means.
pub mod LoadedFields
-- What a fixup record puts into its field is the value of the fixup, where its address and flags are the target's.
pub mod SelfFields
-- A fixup record that leads to a place in the link puts there what the fixup means.
pub mod InsideFields
-- The import modules and procedure names of a link's records stand in the tables of its file.
pub mod ImportNames
-- A fixup record that leads to an entry point of another module puts there what the fixup means.
pub mod ImportFields
-- Each byte of a module that was linked is, wherever it is loaded, the one that the link means there.
pub mod EveryByte
-- ---- exports and entry points
-- There is a free ordinal for each export that asks for none, and it is no other export's.
pub mod FreeOrdinals
-- The exports of a link that is accepted have ordinals that are not 0, and no two have one.
pub mod OrdinalsApart
-- The exports of a link that is accepted: one for each ordinal and for each name, and each has an entry.
pub mod OutApart
-- What stands at an ordinal and at a name of a module with these exports.
pub mod EntriesFound
-- Each export of a link is among those that its tables tell, with what its entry says.
pub mod OutListed
-- What a forwarder leads to is what the place leads to that it names, a loop of forwarders too.
pub mod ForwardersFollowed
-- A forwarder's entry names the entry point of its pair, in the library of the pair's module name.
pub mod ForwardersNamed
-- The entry points of a module that a link wrote are the exports of the link.
pub mod EntriesAreOut
-- ---- imports from import libraries
-- A name that only an import library defines has its definition there.
pub mod ImportsDefined
-- A name that only an import library defines means an import pair of that library.
pub mod NamesBound
-- An external of a name that only an import library defines means a pair of that library.
pub mod ImportsBind
-- A library holds the module of a link of kind LIBRARY under the link's name.
pub mod ModuleHeld
-- The pair of an export leads where the export leads, in every library that holds its module.
pub mod PairsReach
