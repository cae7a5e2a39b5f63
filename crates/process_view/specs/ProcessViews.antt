-- A process's own view of a loader, and the histories that it stands for.
use Rattle.std.specs.Prelude.{◌≡◌, ℕ, ◌==◌, Bool, List, [], map, filter, find}
use Rattle.std.specs.List.{AllByRecursion}
use Rattle.lx_types.specs.declared.parts.Parts.{Parts}
use Rattle.lx_model.specs.Fixed.{bases_of}
use Rattle.page_frames.specs.Residences.{ResidenceFor}
use Rattle.load_model.specs.declared.deeds.Fresh.{Fresh}
use Rattle.load_model.specs.Modules.{Library, fixed_bytes}
use Rattle.load_model.specs.State.{Eager}
use Rattle.load_model.specs.Views.{Holding, StandsFor, new_holding}
use Rattle.load_model.specs.ProcessCounts.{ProcessCounts}
use Rattle.process_pages.specs.ReachedResidences.{pages_with}
use Rattle.load_core.specs.BoardState.{BoardState, state_of}
use Rattle.load_core.specs.Told.{residence_shown}

-- Of which library, what the process keeps, and the residences that it reaches; and for how many pages and residences
-- more it has room.
pub record ProcessView : Type 0 where
  pub library : List Parts
  pub holding : Holding
  pub residences : List ResidenceFor
  pub page_room : ℕ
  pub residence_room : ℕ

-- without regard to room
abbrev pub without_room : ProcessView → ProcessView
without_room v = record v { page_room = 0; residence_room = 0 }

-- a residence as the history has it: its own module's bases alone
abbrev pub fresh_shown : ResidenceFor → Fresh
fresh_shown r = record { serial = r.serial; «module» = r.«module»; bases = bases_of (find (λ b. b.«module» == r.«module») r.bases.mods) }

-- of a process that has done nothing
abbrev pub new_view : Library → ℕ → ProcessView
new_view lib pid = record { library = lib; holding = new_holding lib pid; residences = []; page_room = 0; residence_room = 0 }

-- the view that was shown so many entries
abbrev pub at_front : ℕ → ProcessView → ProcessView
at_front n v = record v { holding = record v.holding { front = n } }

-- each residence stands as it is shown, whoever keeps it: under its serial number, and with the bases that its module sees
abbrev pub AreShown : Library → Eager → List ResidenceFor → Type 0
AreShown lib e residences = AllByRecursion (λ (r : ResidenceFor). r ≡ residence_shown lib e r.keeper r.«module») residences

-- The view stands for all that was done on a board.
pub record StandsAt (b : BoardState) (v : ProcessView) : Type 0 where
  pub library : v.library ≡ b.library
  pub residences : v.holding.residences ≡ map fresh_shown v.residences
  pub stands : StandsFor b.library b.failing (fixed_bytes b.library) v.holding b.history
  pub shown : AreShown b.library (state_of b) v.residences

-- the view that keeps the residences of the modules which pass, with their pages
abbrev pub freed_view : ProcessView → (ℕ → Bool) → ProcessCounts → ℕ → ℕ → ProcessView
freed_view v passes counts room more =
    let rs = filter (λ (r : ResidenceFor). passes r.«module») v.residences in
    record {
      library = v.library;
      holding = record v.holding { counts = counts; residences = map fresh_shown rs; mapped = pages_with rs v.holding.mapped };
      residences = rs;
      page_room = room;
      residence_room = more;
    }
