-- What one process can say of itself over a history: its script so far and its own lines. No other process stands
-- in it but through the history.
use Rattle.std.specs.Prelude.{◌≡◌, ℕ, ◌==◌, Bool, true, List, ◌∷◌, ◌++◌, length, map, filter, flat_map}
use Rattle.std.specs.List.{enumerate_from}
use Rattle.load_model.specs.declared.commands.Command.{Command}
use Rattle.load_model.specs.declared.deeds.Entry.{Entry}
use Rattle.load_model.specs.Modules.{Library, Held}
use Rattle.load_model.specs.State.{Failing, Eager}
use Rattle.session_model.specs.declared.sessions.Line.{Line}
use Rattle.session_model.specs.Merging.{Item, entry, line, state_after_items, AllItems, FrontsFrom, AreFor, is_command_of, FaultLeads, TouchFollows, Replies}

-- ---- its own items

-- the process's lines that stand after so many entries
abbrev pub lines_after : ℕ → List Line → ℕ → List Item
lines_after pid lines front = map (line pid) (filter (λ l. l.front == front) lines)

-- the history with the lines of one process: each entry, and those after it
unfoldable pub own_items : ℕ → List Entry → List Line → List Item
own_items pid h lines = lines_after pid lines 0 ++ flat_map (λ e. entry e.1 ∷ lines_after pid lines e.0) (enumerate_from 1 h)

-- the state at their end: the pages that others touched are not in it
abbrev pub own_state : Library → Failing → ℕ → List Entry → List Line → Eager
own_state lib failing pid h lines = state_after_items lib failing (own_items pid h lines)

-- an item is of a process
abbrev pub is_of : ℕ → Item → Bool
is_of pid (entry x) = x.pid == pid
is_of pid (line other l) = other == pid

-- what is claimed of an item, with what stands before it and what stands after
abbrev pub Claim : Type 1
Claim = List Item → Item → List Item → Type 0

-- the claim, of each item of the process
abbrev pub Only : Claim → ℕ → Claim
Only P pid before item after = is_of pid item ≡ true → P before item after

abbrev pub AllOwn : Claim → ℕ → List Item → Type 0
AllOwn P pid items = AllItems (Only P pid) items

-- ---- what it says

-- The process's account of the commands that it has carried out, by what is asked of a fault. Its fronts do not fall,
-- and pass no entry that is not there; its entries and lines, its faults left out, are the commands one for one; before
-- its touches stand the faults of what they cover; each entry and each line of its own is what the loader answers at
-- its place, by the pages that it touched itself.
pub record AccountBy (Fault : Claim) (lib : Library) (failing : Failing) (contents : Held) (pid : ℕ) (h : List Entry) (lines : List Line)
    (done : List Command) : Type 0 where
  pub fronts : FrontsFrom 0 (length h) lines
  pub commands : AreFor lib (filter (is_command_of pid) (own_items pid h lines)) done
  pub faults : AllOwn Fault pid (own_items pid h lines)
  pub touches : AllOwn (TouchFollows lib failing) pid (own_items pid h lines)
  pub replies : AllOwn (Replies lib failing contents) pid (own_items pid h lines)

-- Between commands what it does next after each of its faults is the touch that made it.
abbrev pub Account : Library → Failing → Held → ℕ → List Entry → List Line → List Command → Type 0
Account lib failing contents pid h lines done = AccountBy (FaultLeads lib failing) lib failing contents pid h lines done
