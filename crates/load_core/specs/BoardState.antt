-- A board as its callers see it: the library, which initialisations fail, what was done so far, and the name under which it
-- keeps residences. All else follows from these.
use Rattle.std.specs.Prelude.{◌≡◌, ℕ, List, [], ◌∷◌, ◌++◌, true}
use Rattle.lx_types.specs.declared.parts.Parts.{Parts}
use Rattle.load_model.specs.declared.deeds.Entry.{Entry}
use Rattle.load_model.specs.Modules.{fixed_bytes}
use Rattle.load_model.specs.State.{Failing, Eager}
use Rattle.load_model.specs.declared.commands.Ask.{Ask}
use Rattle.load_model.specs.Asks.{may_ask, deed_of}
use Rattle.load_model.specs.Histories.{state_after, Legal}

pub record BoardState : Type 0 where
  pub library : List Parts
  pub failing : Failing
  pub history : List Entry
  pub keeper : ℕ

-- the state after the history
abbrev pub state_of : BoardState → Eager
state_of b = state_after b.library b.failing b.history

-- The history is legal, where objects hold the bytes of the files with their fixups.
abbrev pub IsLegal : BoardState → Type 0
IsLegal b = Legal b.library b.failing (fixed_bytes b.library) b.history

-- A process may ask this now.
abbrev pub MayAsk : BoardState → ℕ → Ask → Type 0
MayAsk b pid ask = may_ask b.library (state_of b) pid ask ≡ true

-- the entry of what a process asks now
abbrev pub entry_of : BoardState → ℕ → Ask → Entry
entry_of b pid ask = record { pid = pid; deed = deed_of b.library (fixed_bytes b.library) (state_of b) pid ask }

-- with one entry more
abbrev pub with_entry : BoardState → Entry → BoardState
with_entry b entry = record b { history = b.history ++ entry ∷ [] }

-- The second is the first with the entry of what the process asked, and with nothing else.
abbrev pub Adds : BoardState → BoardState → ℕ → Ask → Type 0
Adds b c pid ask = c ≡ with_entry b (entry_of b pid ask)
