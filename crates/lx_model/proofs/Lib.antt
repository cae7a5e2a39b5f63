-- ---- reading steps and lists
-- What holds of each item of a list, by recursion, through the words that the definitions use.
pub mod Each
-- Items of a table, one after the other: what a step that reads one more says of all of them.
pub mod Many
-- Readings one after the other: what succeeds, and what a test decides.
pub mod Steps
-- A reading step that gives back what was written, and steps one after the other.
pub mod ReadsAs
-- What a reading step took from the front of the bytes.
pub mod Takes
-- Each step of a table takes bytes.
pub mod Shortening
-- The different targets of a list, with one more at its end.
pub mod Once
-- ---- what was written is read again
-- Tables of entries of one length, and the header, are read as they were written.
pub mod PlacesRead
-- Name tables that were written are read again.
pub mod NamesRead
-- The names of import modules are read as they were written, and spelled as they are read.
pub mod ImportsRead
-- Entry tables that were written are read again.
pub mod BundlesRead
-- The entry table of exports is read as the exports, by rising ordinals.
pub mod ExportsRead
-- The records of a page, and groups of iterated data, that were written are read again.
pub mod PagesRead
-- Fixup records that were written are read again.
pub mod RecordsRead
-- ---- what is read is spelled so
-- Name tables and groups of iterated data that are read are spelled so.
pub mod TablesTaken
-- Entry tables that are read are spelled so.
pub mod BundlesTaken
-- Each fixup record that is read is spelled so.
pub mod RecordsTaken
-- The records of a page that have no fault are all spelled so.
pub mod PageRecords
-- ---- the first fault of a file
-- The faults of a table, by what its step takes, reads, and refuses.
pub mod FaultsAfter
-- Where fields one after the other fail.
pub mod FaultyFields
-- Where names, import modules and groups of iterated data are wrong.
pub mod FaultyTables
-- Where entry bundles are wrong.
pub mod FaultyBundles
-- Where fixup records are wrong.
pub mod FaultyRecords
-- Where no fault is first, there is none.
pub mod Firsts
-- The first fault of entries by places.
pub mod FirstFaults
-- ---- the parts of a faultless file fit each other
-- The parts of a faultless file fit each other: tables by places.
pub mod Soundness
-- The parts of a faultless file fit each other: the entry table and the import modules.
pub mod Entries
-- The parts of a faultless file fit each other: the references of its records.
pub mod References
-- ---- modules that were read, and what a file means
-- Modules that were read: their pages, records and references, and the spots of a fit one.
pub mod ReadModules
-- A module that was read has a name, and its entries have ordinals of 16 bits.
pub mod ReadNames
-- The sources of a fit module have spots, and its iterated pages give bytes.
pub mod FitModules
-- The laws of what a file means.
pub mod Meaning
-- ---- bundles of exports
-- The bundles that the ordinals of exports are joined to are the exports' bundles.
pub mod JoinedBundles
-- There is one list of bundles for what stands at the ordinals.
pub mod OneList
-- ---- libraries: forwarders, and the order of modules
-- Forwarders are a loop exactly where they come to a place a second time.
pub mod Loops
-- What a visit adds: the order of a module holds exactly what the module reaches.
pub mod Visits
-- The order of a module: each once, within the library, closed under imports, the module last.
pub mod Orders
