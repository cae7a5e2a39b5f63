-- The offsets of names, one after another.
mod NameOffsets
-- The form of a page.
mod Forms
-- Pages that are added: their entries and their data.
mod PagesAdded
-- Records that are added, page by page.
mod RecordsAdded
-- Fixups with offsets of names can be written as those with places of names.
mod InFile
-- An image that has the parts of a link is the link's module.
mod LinkImages
-- The data of a page has at most 4,096 bytes.
mod Short
-- Fixups with the offsets of names are those of the image's module.
mod SameFixes
-- The records of an image have spellings.
mod RecordsWritten
-- The tables of an image fit each other.
mod TablesWritten
-- The places of sections, and the doublewords of the header.
mod Fields
-- A page of zeros.
mod Zeros
