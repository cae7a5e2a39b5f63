-- What leaves with a free or an exit.
use Rattle.std.specs.Prelude.{◌≡◌, ℕ, List}
use Rattle.load_model.specs.declared.deeds.Call.{Call}
use Rattle.load_model.specs.declared.deeds.Gone.{Gone}
use Rattle.load_model.specs.declared.deeds.Deed.{Deed}
use Rattle.load_model.specs.declared.deeds.Deed.TheVariants.{Free, Exit}
use Rattle.load_model.specs.State.{Process}
use Rattle.load_model.specs.Leaving as leaving
use Rattle.load_model.specs.declared.commands.Ask.{Ask}
use Rattle.load_model.specs.declared.commands.Ask.TheVariants.{Free as free, Exit as exit}
use Rattle.mod_refs.specs.declared.changes.Leaving.{Leaving}
use Rattle.mod_refs.specs.declared.changes.Leaving.TheVariants.{One, All}
use Rattle.mod_refs.specs.Changes.{given_up}
use Rattle.load_core.specs.BoardState.{BoardState, state_of}
use Rattle.load_core.specs.declared.leaves.Departure.{Departure}

-- a process that gives up one load asks to free the module, one that gives up all asks to end
abbrev pub asked_by : Leaving → Ask
asked_by (One m) = free m
asked_by All = exit

abbrev pub leaving_deed : Leaving → List Call → List Gone → Deed
leaving_deed (One m) calls gone = Free m calls gone
leaving_deed All calls gone = Exit calls gone

-- the process once it gave that up, before it leaves what it no longer reaches
abbrev pub process_left : BoardState → ℕ → Leaving → Process
process_left b pid what = given_up what ((state_of b).processes pid)

-- The calls, the residences that end, and their modules.
pub record IsDeparture (b : BoardState) (pid : ℕ) (what : Leaving) (departure : Departure) : Type 0 where
  pub calls : departure.calls ≡ leaving.leaving_calls b.library (state_of b) pid (process_left b pid what)
  pub gone : departure.gone ≡ leaving.gone b.library (state_of b) pid (process_left b pid what)
  pub modules : departure.modules.items ≡ leaving.gone_modules b.library (state_of b) pid (process_left b pid what)
