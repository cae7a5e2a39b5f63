-- ---- facts of tests and lists
-- Tests that pass and fail.
pub mod Bools
-- Which elements lists have: joined, filtered, turned round and mapped.
pub mod Among
-- ---- histories, and what each entry keeps
-- Legal histories: cut anywhere, and longer by one entry.
pub mod Growing
-- What each entry keeps: a process has attached what it reaches, and what some process reaches is resident.
pub mod Kept
-- What leaves: a process keeps what it still reaches, and residences that somebody reaches stay.
pub mod KeptLeaving
-- What every legal history keeps, entry by entry.
pub mod Residents
-- What a process reaches is closed: with a module it reaches all that the module reaches.
pub mod Orders
-- What processes reach is fit.
pub mod ReachedFit
-- No process holds more loads of a module than the limit.
pub mod Bounded
-- Failing initialisations: which fail is fixed, and a load that fails leaves nothing.
pub mod FailedLoads
-- The calls of a load that failed.
pub mod FailedCalls
-- Refusals as lists of causes, of which the first that holds counts.
pub mod Causes
-- ---- residences that stand, and their serial numbers
-- Residences that stand, from one entry to the next.
pub mod Stays
-- Where residences stand, entry by entry.
pub mod ResidenceBases
-- While a residence stands, the bases of all that it reaches stay.
pub mod BasesStay
-- Serial numbers rise.
pub mod Serials
-- Residences of one serial number are one.
pub mod SerialsOwn
-- Faults name serial numbers that were given.
pub mod GivenSerials
-- An order is no longer than the library, so an entry gives few serial numbers.
pub mod FewSerials
-- ---- processes do not disturb each other
-- Other processes: what they do changes nothing that a process is answered without an entry.
pub mod Apart
-- The bytes and the addresses that a process is answered, in two states that it cannot tell apart.
pub mod Bytes
-- Where an entry point leads is in a module that its own module reaches: forwarders go by import tables.
pub mod EntryReach
-- What a process is answered without an entry is the same in two states that it cannot tell apart.
pub mod Answers
-- Two ways to say what objects hold, which agree on what is asked.
pub mod Holding
-- A process's own writes lie in residences that it reaches.
pub mod HeldWrites
-- ---- touched pages
-- Commands that are not refused, and states that differ in touched pages alone.
pub mod Accepted
-- States that differ in touched pages alone.
pub mod Retouched
-- Touched pages: answers read them page by page, and entries take all else along.
pub mod Touched
-- The steps of a touch, entry by entry and page by page.
pub mod TouchSteps
-- ---- views of a process
-- What a view stands for, through entries of other processes, and what it refuses.
pub mod Views
-- A view after an entry of its own that changes nothing in it, and with a page more.
pub mod ViewSteps
-- What a view answers without an entry is what the loader answers.
pub mod ViewReplies
-- A view after a write of its own.
pub mod ViewWrites
-- A view after a load of its own.
pub mod ViewLoads
-- A view after a free or an exit of its own.
pub mod ViewLeaving
-- ---- what callers are told
-- The name in a command that is not refused means a module.
pub mod Outcomes
-- What callers are told, and that their entries follow the history.
pub mod ToldOutcomes
