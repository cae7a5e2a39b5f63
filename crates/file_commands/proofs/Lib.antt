-- What holds of the loads of a command.
pub mod Begun
-- The text of an object's bytes, line by line.
mod Lines
-- From a link's objects in memory to their text, and from its refusal to the text of that.
mod ImageMemory
-- What a save leaves, and what is said after it.
mod Saved
-- What a command comes to, and what it says.
pub mod ComesTo
-- ---- commands
-- From what the steps of a command do to what the command does.
pub mod Done
-- What each command does, from what its steps answer.
mod Commands
-- The imports of several files together, and the length of their library.
mod Imports
-- From the map of a link, or its refusal, to what `map` does.
mod Mapped
-- From what modules hold in memory, or a refusal, to what `memory` does.
mod HeldMemory
-- From the text of a file, and its fault, to what `show` says.
mod Shown
-- A command that loads one file.
mod OneLoad
