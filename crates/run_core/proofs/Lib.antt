-- What the proofs cite of definitions and of lower crates.
pub mod Words
-- What a process answers to a command.
pub mod Answered
-- What a thread carries out of its script.
pub mod Carried
-- How a session begins and ends.
pub mod Ending
