-- A transcript is its lines in turn.
pub mod LinesInTurn
-- The lines of a transcript follow each other.
pub mod Followers
-- Lines that follow each other to an end are those of a transcript.
pub mod Assembly
-- Lines that follow each other go on to an end.
pub mod Endings
