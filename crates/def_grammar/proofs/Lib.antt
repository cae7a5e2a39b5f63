-- ---- facts that the other pages use
-- What follows from answers, and how names, texts and numbers are answered.
pub mod Answered
-- Words of attributes and of calls: a word is taken exactly where the other word of its pair does not stand.
pub mod WordLaws
-- Which statements stand already, by what was said.
pub mod Standing
-- ---- what is grammatical is read
-- Readings after whole statements and whole items: what they answer to a token that may follow.
pub mod After
-- Words of attributes, items of SEGMENTS and items of IMPORTS are read.
pub mod ReadItems
-- Items of EXPORTS are read: each part that may stand, or none.
pub mod ReadExports
-- Statements are read.
pub mod ReadStatements
-- Grammatical files are read.
pub mod Grammatical
-- ---- what is read is grammatical
-- What stands before a place within a file: whole statements, and a part of the next one.
pub mod States
-- After whole statements: the keyword of the next one, or the file's end.
pub mod Falls
-- One token more among items.
pub mod NextItems
-- One token more, wherever it stands.
pub mod NextStates
-- The file's end is the last token of a file, and no other.
pub mod Ended
-- What is read is grammatical.
pub mod ReadGrammatical
-- Whatever stands before a place, it can be completed to a grammatical file.
pub mod Completing
-- ---- the first fault of a file
-- Why a token is refused, by what else would be taken.
pub mod StepCauses
-- After whole statements, a token that begins none.
pub mod FaultFalls
-- Why a token is refused among items.
pub mod FaultItems
-- Why a token is refused, wherever it stands.
pub mod FaultStates
-- The fault that is answered is the first fault of the file.
pub mod Faults
-- A file has one first fault.
pub mod OneFault
