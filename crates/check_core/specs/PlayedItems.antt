-- What is right at an item by what a loader does there, and when an item can be played.
use Rattle.std.specs.Prelude.{◌≡◌, ℕ, ◌≤◌, true, List, [], ◌∷◌, length, find, Option, Some, None, slice_get}
use Rattle.std.specs.List.{AllByRecursion}
use Rattle.load_model.specs.declared.commands.Command.{Command}
use Rattle.load_model.specs.Modules.{Library}
use Rattle.session_model.specs.declared.sessions.Script.{Script}
use Rattle.session_model.specs.Merging.{Item, is_command_of}
use Rattle.check_model.specs.declared.kinds.CheckKind.{CheckKind}
use Rattle.check_model.specs.declared.kinds.CheckKind.TheVariants as kinds
use Rattle.check_model.specs.Told.{Told}
use Rattle.check_model.specs.Places.{at_item}
use Rattle.check_model.specs.Checks.{Judge, CommandIsNext, EntryIsAsked, EntryIsDone, FaultIsRight, TouchIsRight, ReplyIsRight, IsRight, in_order, WrongFirst, commands_of, process_of}
use Rattle.check_core.specs.NextCommands.{AreDone, IsForNext}

-- ---- by kind

-- the kinds of what a loader does, in their order
abbrev pub played_kinds : List CheckKind
played_kinds = kinds.Refused ∷ kinds.Entry ∷ kinds.Fault ∷ kinds.Touch ∷ kinds.Reply ∷ []

abbrev pub IsRightlyPlayed : Judge → List Item → Item → List Item → CheckKind → Type 0
IsRightlyPlayed j before item after kinds.Refused = EntryIsAsked j before item
IsRightlyPlayed j before item after kinds.Entry = EntryIsDone j before item
IsRightlyPlayed j before item after kinds.Fault = FaultIsRight j before item after
IsRightlyPlayed j before item after kinds.Touch = TouchIsRight j before item after
IsRightlyPlayed j before item after kinds.Reply = ReplyIsRight j before item after
IsRightlyPlayed j before item after kind = Unit {0}

-- Of these kinds nothing is wrong with an item, or this one is wrong first.
abbrev pub IsPlayed : Judge → List Item → Item → List Item → Option CheckKind → Type 0
IsPlayed j before item after None = AllByRecursion (IsRightlyPlayed j before item after) played_kinds
IsPlayed j before item after (Some kind) = WrongFirst (IsRightlyPlayed j before item after) played_kinds kind

-- the same of all kinds
abbrev pub IsJudgedItem : Judge → Told → ℕ → List Item → Item → List Item → Option CheckKind → Type 0
IsJudgedItem j t low before item after None = AllByRecursion (IsRight j t (at_item low before item after)) in_order
IsJudgedItem j t low before item after (Some kind) = WrongFirst (IsRight j t (at_item low before item after)) in_order kind

-- ---- which items can be played

-- The item is of a process that has a script, and is for its next command, which is this, where it is for one. A command that is
-- handed is one of the script's.
pub record CanPlay (j : Judge) (before : List Item) (item : Item) (command : Option Command) : Type 0 where
  pub least : 1 ≤ process_of item
  pub most : process_of item ≤ length j.scripts
  pub next : CommandIsNext j before item
  pub command_is : is_command_of (process_of item) item ≡ true → IsForNext j.lib command item
  pub scripted : (n : ℕ) × (command ≡ slice_get (commands_of j.scripts (process_of item)) n)

-- the item that the process has next that is for a command, among those after
abbrev pub next_after : Item → List Item → Option Item
next_after item after = find (is_command_of (process_of item)) after

-- one of so many processes, which count from 1
abbrev pub IsOneOf : ℕ → ℕ → Type 0
IsOneOf processes pid = (1 ≤ pid) × (pid ≤ processes)

-- ---- one item, with all that is kept of those before

-- by what a transcript is judged, as code has it
pub record IsJudgeOf (j : Judge) (t : Told) (lib : Library) (scripts : List Script) (most : ℕ) : Type 0 where
  pub lib_is : j.lib ≡ lib
  pub scripts_are : j.scripts ≡ scripts
  pub most_is : length t.run.history ≡ most

-- Before an item: commands are counted, and a player stands there.
pub record StandsBefore (Stands : Judge → List Item → List Item → Type 0) (j : Judge) (before after : List Item) (done : List ℕ) : Type 0 where
  pub counted : AreDone j before done
  pub stands : Stands j before after

-- The item is of a process that has a script, and this is what that does next.
pub record IsOfScript (j : Judge) (item : Item) (after : List Item) (next : Option Item) : Type 0 where
  pub least : 1 ≤ process_of item
  pub most : process_of item ≤ length j.scripts
  pub next_is : next ≡ next_after item after
