-- Worked values: what two processes say of themselves, line by line, and in the midst of a touch.
use Rattle.std.specs.Prelude.{ℕ, List, [], ◌∷◌, codes}
use Rattle.load_model.specs.declared.commands.Command.{Command}
use Rattle.load_model.specs.declared.commands.Command.TheVariants as commands
use Rattle.load_model.specs.declared.commands.Place.{Place}
use Rattle.load_model.specs.declared.commands.Reply.TheVariants as replies
use Rattle.load_model.specs.declared.commands.Refusal.TheVariants as why
use Rattle.load_model.specs.declared.deeds.How.TheVariants as ways
use Rattle.load_model.specs.declared.deeds.Deed.TheVariants.{Enter, Free, Fault, Debug}
use Rattle.load_model.specs.declared.deeds.Entry.{Entry}
use Rattle.load_model.specs.Modules.{Library}
use Rattle.load_model.specs.State.{PageOf}
use Rattle.load_model.specs.Histories.{Legal}
use Rattle.load_model.specs.Memory.{page}
use Rattle.load_model.specs.Samples.{code, object, library, zeros, fresh, place}
use Rattle.session_model.specs.declared.sessions.Line.{Line}
use Rattle.session_model.specs.declared.sessions.Script.{Script}
use Rattle.session_model.specs.declared.sessions.ScriptLines.{ScriptLines}
use Rattle.session_model.specs.Merging.{Merge}
use Rattle.session_model.specs.WorkedRuns.{entry_of, line_at}
use Rattle.merge_laws.specs.Accounts.{own_state, Account}
use Rattle.merge_laws.specs.MidTouch.{IsFaultFor, AccountInTouch}
use Rattle.merge_laws.specs.OwnStates.{HasTouched}

-- a library of one code object of three pages, the last of them half
abbrev pub E : Library
E = library (codes "E") (object code 0x2800 0x10000000 ∷ []) ∷ []

-- bytes of its object
abbrev pub at_E : ℕ → ℕ → Place
at_E offset len = place (codes "E") 1 offset len

-- both processes load it
abbrev pub load_new : Entry
load_new = entry_of 1 (Enter ways.Load 0 (fresh 1 0 (0x10000000 ∷ []) ∷ []) [])

abbrev pub load_again : Entry
load_again = entry_of 2 (Enter ways.Load 0 [] [])

abbrev pub fault_by : ℕ → ℕ → Entry
fault_by pid n = entry_of pid (Fault 1 0 (page 1 n))

-- ---- a fault of one process between two lines of the other

abbrev pub between : List Entry
between = load_new ∷ load_again ∷ fault_by 1 0 ∷ fault_by 2 1 ∷ []

abbrev pub lines_of_first : List Line
lines_of_first = line_at 3 (commands.Touch (at_E 0 8)) replies.Fine ∷ line_at 4 (commands.Peek (at_E 0 2)) (replies.Bytes (0 ∷ 0 ∷ [])) ∷ []

abbrev pub commands_of_first : List Command
commands_of_first = commands.Load (codes "E") ∷ commands.Touch (at_E 0 8) ∷ commands.Peek (at_E 0 2) ∷ []

-- the second has not touched the page that the first has
abbrev pub lines_of_second : List Line
lines_of_second = line_at 4 (commands.Touch (at_E 0x1000 8)) replies.Fine ∷ line_at 4 (commands.Peek (at_E 0 2)) (replies.Refused (why.NotTouched 0)) ∷ []

abbrev pub commands_of_second : List Command
commands_of_second = commands.Load (codes "E") ∷ commands.Touch (at_E 0x1000 8) ∷ commands.Peek (at_E 0 2) ∷ []

-- it peeks as if it had
abbrev pub lines_unseen : List Line
lines_unseen = line_at 4 (commands.Touch (at_E 0x1000 8)) replies.Fine ∷ line_at 4 (commands.Peek (at_E 0 2)) (replies.Bytes (0 ∷ 0 ∷ [])) ∷ []

abbrev pub lines_between : List ScriptLines
lines_between = record { pid = 1; lines = lines_of_first } ∷ record { pid = 2; lines = lines_of_second } ∷ []

abbrev pub scripts_between : List Script
scripts_between = record { pid = 1; commands = commands_of_first } ∷ record { pid = 2; commands = commands_of_second } ∷ []

pub record WorkedBetween : Type 0 where
  pub legal : Legal E [] zeros between
  pub first : Account E [] zeros 1 between lines_of_first commands_of_first
  pub second : Account E [] zeros 2 between lines_of_second commands_of_second
  pub merge : Merge E [] zeros between lines_between scripts_between
  -- what the other touched is not its own, and its own fault has to lead to a touch of that page
  pub unseen : Account E [] zeros 2 between lines_unseen commands_of_second → ⊥
  pub not_led : Account E [] zeros 2 between lines_of_first commands_of_first → ⊥

-- ---- a touch with another's fault between its own

abbrev pub whole : Place
whole = at_E 0 0x2800

abbrev pub loads : List Entry
loads = load_new ∷ load_again ∷ []

abbrev pub load_first : List Command
load_first = commands.Load (codes "E") ∷ []

-- the second process makes the fault of the page in the middle
abbrev pub in_touch : List Entry
in_touch = load_new ∷ load_again ∷ fault_by 1 0 ∷ fault_by 2 1 ∷ fault_by 1 2 ∷ []

abbrev pub touched_whole : List Line
touched_whole = line_at 5 (commands.Touch whole) replies.Fine ∷ []

abbrev pub touched_commands : List Command
touched_commands = commands.Load (codes "E") ∷ commands.Touch whole ∷ []

-- the second process frees the library after it
abbrev pub and_freed : List Entry
and_freed = load_new ∷ load_again ∷ fault_by 1 0 ∷ fault_by 2 1 ∷ fault_by 1 2 ∷ entry_of 2 (Free 0 [] []) ∷ []

abbrev pub three_pages : List PageOf
three_pages = record { serial = 1; page = page 1 0 } ∷ record { serial = 1; page = page 1 1 } ∷ record { serial = 1; page = page 1 2 } ∷ []

-- the first process sets a break in a page that it has touched
abbrev pub break_by : ℕ → Entry
break_by pid = entry_of pid (Debug 1 0 1 0 (0xCC ∷ []))

abbrev pub and_broken : List Entry
and_broken = load_new ∷ load_again ∷ fault_by 1 0 ∷ fault_by 2 1 ∷ fault_by 1 2 ∷ break_by 1 ∷ []

abbrev pub broken_commands : List Command
broken_commands = commands.Load (codes "E") ∷ commands.Touch whole ∷ commands.Debug (at_E 0 1) (0xCC ∷ []) ∷ []

pub record WorkedTouch : Type 0 where
  pub legal : Legal E [] zeros and_freed
  pub loaded : Account E [] zeros 1 loads [] load_first
  pub begun : AccountInTouch E [] zeros 1 whole loads [] load_first
  pub waiting : AccountInTouch E [] zeros 1 whole in_touch [] load_first
  pub ended : Account E [] zeros 1 in_touch touched_whole touched_commands
  pub stays : Account E [] zeros 1 and_freed touched_whole touched_commands
  pub broken : Account E [] zeros 1 and_broken touched_whole broken_commands
  pub touched : HasTouched E [] 1 and_freed touched_whole three_pages
  -- in its midst it is no account between commands; and after it a page that it covers is touched no more for the first time
  pub midst : Account E [] zeros 1 in_touch [] load_first → ⊥
  pub again : IsFaultFor E (own_state E [] 1 in_touch touched_whole) 1 whole (Fault 1 0 (page 1 0)) → ⊥
  -- nor is a write to code one, of pages that the process has not touched
  pub unbroken : Account E [] zeros 1 (load_new ∷ break_by 1 ∷ []) [] (commands.Load (codes "E") ∷ commands.Debug (at_E 0 1) (0xCC ∷ []) ∷ []) → ⊥
