-- Signs and quoted texts at the front of bytes are read as their tokens.
pub mod TextLaws
-- A line of tokens is read as these tokens.
pub mod SpellingLaws
-- The statements before the lists, read again.
pub mod ReadHead
-- The items of SEGMENTS, read again.
pub mod ReadSegments
-- The items of EXPORTS, read again.
pub mod ReadExports
-- The items of IMPORTS and the sizes, read again.
pub mod ReadImports
-- What was drafted for a value gives the value.
pub mod FileLaws
-- What is written for a value is read as the value.
pub mod ReadBack
-- One more item is written.
pub mod WritingLaws
-- Names and texts that fit between single quotes are read again.
pub mod QuotableLaws
