-- Sources that share no byte, by the numbers of their bytes.
mod SourcesApart
-- Marks of numbers are those of the ordinals of exports.
mod ExportMarks
-- What is asked of an image, part by part.
mod Asked
