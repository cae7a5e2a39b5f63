-- Legal histories: each entry is the one that the loader with one thread gives at its place.
use Rattle.std.specs.Prelude.{◌≡◌, ℕ, ◌==◌, ◌&&◌, Bool, true, false, not, List, [], ◌∷◌, ◌++◌, fold, IsTrue}
use Rattle.std.specs.List.{list_any}
use Rattle.lx_types.specs.declared.object.PageId.{PageId}
use Rattle.load_model.specs.declared.deeds.Deed.{Deed}
use Rattle.load_model.specs.declared.deeds.Deed.TheVariants as deeds
use Rattle.load_model.specs.declared.deeds.Entry.{Entry}
use Rattle.load_model.specs.Modules.{Library, Held}
use Rattle.load_model.specs.State.{Failing, Eager, nothing_yet, pids, is_among}
use Rattle.load_model.specs.Memory.{is_page}
use Rattle.load_model.specs.Asks.{ask_in, deed_of, may_ask, after_deed}

abbrev pub after_entry : Library → Eager → Entry → Eager
after_entry lib e entry = after_deed lib e entry.pid entry.deed

-- the state after a history in which some initialisations fail
unfoldable pub state_after : Library → Failing → List Entry → Eager
state_after lib failing h = fold (after_entry lib) (nothing_yet failing) h

-- ---- faults

-- an entry is the fault of a page of a residence
abbrev pub is_fault_of : ℕ → PageId → Deed → Bool
is_fault_of serial p (deeds.Fault other m q) = (other == serial) && is_page q p
is_fault_of serial p deed = false

-- a page of a residence has its fault in a history
unfoldable pub has_fault : List Entry → ℕ → PageId → Bool
has_fault h serial p = list_any (λ entry. is_fault_of serial p entry.deed) h

-- a fault that the history has not
abbrev pub is_first_fault : List Entry → Deed → Bool
is_first_fault h (deeds.Fault serial m p) = not (has_fault h serial p)
is_first_fault h deed = true

-- ---- what may follow, and what is legal

-- An entry may follow a history: a process may ask it there, it is what the loader does then, and it is no
-- second fault of a page of a residence. What was touched is not judged here.
pub record Follows (lib : Library) (failing : Failing) (contents : Held) (h : List Entry) (entry : Entry) : Type 0 where
  pub process : IsTrue (is_among pids entry.pid)
  pub may : IsTrue (may_ask lib (state_after lib failing h) entry.pid (ask_in entry.deed))
  pub done : entry.deed ≡ deed_of lib contents (state_after lib failing h) entry.pid (ask_in entry.deed)
  pub first : IsTrue (is_first_fault h entry.deed)

-- entries follow a history, one after the other
abbrev pub AllFollow : Library → Failing → Held → List Entry → List Entry → Type 0
AllFollow lib failing contents h [] = Unit {0}
AllFollow lib failing contents h (entry ∷ others) = Follows lib failing contents h entry × AllFollow lib failing contents (h ++ entry ∷ []) others

-- from the state in which nothing was done yet
unfoldable pub Legal : Library → Failing → Held → List Entry → Type 0
Legal lib failing contents h = AllFollow lib failing contents [] h
