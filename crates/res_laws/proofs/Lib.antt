-- ---- lists, and numbers set in a file
-- Numbers and parts of files, by their places.
pub mod Lists
-- Numbers that are set in a file, one after the other, at offsets from a place that are apart.
pub mod Sets
-- Bytes of the old file that stand: those that no field has that is set.
pub mod Standing
-- Bytes at the front of what a file has from a place on, which stand in the bound file.
pub mod Fronts
-- What holds of each item of lists that are made of others.
pub mod Eaches
-- ---- the parts of the bound file
-- What a clear file says, part by part; and what its header says once more is set.
pub mod Clear
-- Where everything stands in the bound file.
pub mod Layouts
-- The header of the bound file: where it stands, and what its fields say.
pub mod HeaderNow
-- The header of the bound file has no fault.
pub mod HeaderFaults
-- The objects of the bound file: those of the old one, and the new one.
pub mod ObjectsNow
-- The pages of the bound file: those of the old one, and those of the new object.
pub mod PagesNow
-- The page table of the bound file has no fault.
pub mod PageFaults
-- Where the records of each page of the bound file stand: those of old pages as before, and none of the new ones.
pub mod SpansNow
-- The name tables, the import modules and the entries of the bound file are those of the old one.
pub mod NamesNow
-- The fixup records of the bound file are those of the old one, and their targets are there.
pub mod RecordsNow
-- The bound file has no fault.
pub mod Faultless
-- The parts of the bound file: those of the old one, and its old pages with their bytes and records.
pub mod PartsNow
-- ---- a library with the bound module
-- Libraries whose modules have the same names, imports and entries: what leads to a spot in one does in the other.
pub mod Alike
-- Libraries whose modules are alike have the same orders, and what is fit in one is fit in the other.
pub mod Healthy
-- A library with the bound module in the place of the old one: fixups make the same of old pages.
pub mod FixedNow
-- The resources of the bound file are the items, and their bytes lie in the new object.
pub mod FoundNow
-- What a bound file means, all together.
pub mod Bindings
-- A library with the bound module in the old one's place serves as the old library did.
pub mod Served
