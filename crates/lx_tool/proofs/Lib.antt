-- ---- calls, counted and found to be sound
-- How often calls have failed, call by call.
mod Counts
-- Calls of which none failed are those that the told files have.
mod Sound
-- What the statuses of a command say of its calls.
mod Statuses
-- From what calls answered to what the files have.
mod Headline
-- ---- texts that are put and saved
-- How a text is put piece by piece.
mod Putting
-- What `gen` does, from what the generator does.
mod Generated
-- How a call ends, from what was done, what was said and what was put.
mod Endings
-- ---- sessions of `run FILE`
-- What the statuses of `run FILE` say of its calls.
mod SessionSays
-- How a call with `run FILE` ends, from what was done, what was said and what was put.
mod RunEndings
-- What is said of scripts that ran, and of modules that are no library.
mod Sessions
-- ---- transcripts of `check FILE TRANSCRIPT`
-- What is said of a session and a transcript, from what the steps answer.
mod Checks
-- How a call with `check FILE TRANSCRIPT` ends, from what was done, what was said and what was put.
mod CheckEndings
