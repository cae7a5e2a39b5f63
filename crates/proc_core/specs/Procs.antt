-- A process, as its callers see it: of which lock it is, what its pass knows, and its own view.
use Rattle.std.specs.Prelude.{◌≡◌, [], true, Option, Some, None}
use Rattle.atomic_table.specs.Seated.{TableId}
use Rattle.atomic_table.specs.declared.shared.Seat.{Seat}
use Rattle.turn_lock.specs.declared.known.Known.{Known}
use Rattle.turn_lock.specs.Turns.{by_pid}
use Rattle.load_model.specs.declared.deeds.Entry.{Entry}
use Rattle.load_model.specs.State.{Failing, pids, is_among}
use Rattle.load_core.specs.BoardState.{BoardState, IsLegal}
use Rattle.process_view.specs.ProcessViews.{ProcessView, StandsAt}
use Rattle.proc_core.specs.declared.kept.About.{About}
use Rattle.proc_core.specs.declared.kept.Kept.{Kept}

pub record ProcState : Type 0 where
  pub lock : TableId
  pub known : Known Entry About
  pub view : ProcessView

-- by its pass and its view
abbrev pub proc_state : Seat (Option Kept) (Known Entry About) → ProcessView → ProcState
proc_state pass view = record { lock = pass.table_id; known = pass.me.0; view = view }

-- which initialisations fail
abbrev pub failing_in : Option About → Failing
failing_in None = []
failing_in (Some about) = about.failing

-- what its pass has seen of the history, of its library and the failing pairs
-- the board that its pass has seen, whoever keeps the residences
abbrev pub front_of : ProcState → BoardState
front_of p = record { library = p.view.library; failing = failing_in p.known.subject; history = p.known.seen; keeper = 0 }

abbrev pub about_of : ProcState → About
about_of p = record { library = p.view.library; failing = failing_in p.known.subject }

-- What holds of every process: it is one of 16; its library is the one that its pass is about; what it has seen is legal,
-- its own list is the filter of it, and its view stands for it; no other pass was joined into its own.
pub record Holds (p : ProcState) : Type 0 where
  pub process : is_among pids p.view.holding.pid ≡ true
  pub number : p.view.holding.pid ≡ p.known.pid
  pub about : p.known.subject ≡ Some (about_of p)
  pub legal : IsLegal (front_of p)
  pub own : by_pid (λ (x : Entry). x.pid) p.known.pid p.known.seen ≡ p.known.mine
  pub stands : StandsAt (front_of p) p.view
  pub apart : p.known.ended ≡ []

-- The process is one of the loader of this lock.
abbrev pub IsOf : TableId → ProcState → Type 0
IsOf loader p = p.lock ≡ loader
