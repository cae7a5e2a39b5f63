-- A turn of a process: the board comes to it, and goes back.
use Rattle.std.specs.Prelude.{◌≡◌, ℕ, ◌++◌, List, length, Result, Ok, Err}
use Rattle.lx_types.specs.declared.fail.Fail.{Fail}
use Rattle.load_model.specs.declared.commands.Command.{Command}
use Rattle.load_model.specs.declared.commands.Refusal.{Refusal}
use Rattle.turn_lock.specs.declared.known.Known.{Known}
use Rattle.turn_lock.specs.Turns.{by_pid, drawing, seeing}
use Rattle.load_model.specs.declared.deeds.Entry.{Entry}
use Rattle.load_model.specs.Outcomes.{done}
use Rattle.load_core.specs.BoardState.{BoardState, IsLegal}
use Rattle.process_view.specs.ProcessViews.{ProcessView, StandsAt, at_front}
use Rattle.proc_core.specs.declared.kept.About.{About}
use Rattle.proc_core.specs.declared.answers.Acted.{Acted}
use Rattle.proc_core.specs.Procs.{ProcState, front_of}
use Rattle.proc_core.specs.Calls.{AreOthers, Made, IsAnswered, IsReadLast}

-- what a pass knows in its turn, at a board that has this history
abbrev pub in_turn : ProcState → List Entry → Known Entry About → Type 0
in_turn p h w = (t : ℕ) × (w ≡ seeing h (drawing t p.known))

-- The board has come to a process with what others did meanwhile, and its view stands for all of it.
pub record HasCome (p : ProcState) (b : BoardState) (v : ProcessView) : Type 0 where
  pub more : List Entry
  pub others : AreOthers p.known.pid more
  pub mine : by_pid (λ (x : Entry). x.pid) p.known.pid b.history ≡ p.known.mine
  pub is : b ≡ record (front_of p) { history = p.known.seen ++ more; keeper = b.keeper }
  pub view : v ≡ at_front (length b.history) p.view
  pub stands : StandsAt b v
  pub legal : IsLegal b

-- the answer says the same as what was done, with the number of the entry and the bytes that were read
abbrev pub IsToldBy : ℕ → Result (List ℕ) (Fail Refusal) → Result Acted (Fail Refusal) → Type 0
IsToldBy number (Ok bytes) (Ok it) = (it.done.number ≡ number) × (it.bytes ≡ bytes)
IsToldBy number (Err fail) (Err other) = other ≡ fail
IsToldBy number (Ok bytes) (Err other) = ⊥
IsToldBy number (Err fail) (Ok it) = ⊥

-- The command is answered, and the bytes that were read are those of its entry.
abbrev pub IsActed : ProcState → ProcState → Command → Result Acted (Fail Refusal) → Type 0
IsActed p q command (Ok it) = Made p q command (done it.done.number) × IsReadLast q it.bytes
IsActed p q command (Err fail) = IsAnswered p q command (Err fail)
