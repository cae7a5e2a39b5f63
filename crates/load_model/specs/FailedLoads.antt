-- What is left of a load whose initialisation fails.
use Rattle.std.specs.Prelude.{◌≡◌, ◌+◌, ℕ, true, List, length, map}
use Rattle.load_model.specs.declared.deeds.How.{How}
use Rattle.load_model.specs.declared.deeds.Call.{Call}
use Rattle.load_model.specs.declared.deeds.Fresh.{Fresh}
use Rattle.load_model.specs.declared.deeds.Gone.{Gone}
use Rattle.load_model.specs.declared.deeds.Deed.TheVariants.{Failed}
use Rattle.load_model.specs.declared.deeds.Entry.{Entry}
use Rattle.load_model.specs.Modules.{Library, Held}
use Rattle.load_model.specs.State.{Failing, Eager}
use Rattle.load_model.specs.Entering.{newcomers}
use Rattle.load_model.specs.Initialising.{fails_in, gone_again}
use Rattle.load_model.specs.Histories.{after_entry, state_after, Follows}

-- Which initialisations fail is fixed from the start.
abbrev pub FailingStays : Type 0
FailingStays = (lib : Library) (failing : Failing) (h : List Entry) → (state_after lib failing h).failing ≡ failing

abbrev pub failed_entry : ℕ → How → ℕ → ℕ → List Fresh → List Call → List Gone → Entry
failed_entry pid how m by fresh calls gone = record { pid = pid; deed = Failed how m by fresh calls gone }

-- What is so of a failed load in a state.
pub record LeavesNothing (lib : Library) (failing : Failing) (e after : Eager) (pid m by : ℕ) (fresh : List Fresh) (gone : List Gone) : Type 0 where
  -- the module that failed is of a failing pair
  pub failed : fails_in failing pid by ≡ true
  -- a residence begins for each module that was to be loaded and was not resident, and each of them ends
  pub began : map (λ f. f.«module») fresh ≡ newcomers lib e pid m
  pub ended : gone ≡ gone_again fresh
  -- residences and processes are as they were
  pub residences : after.residences ≡ e.residences
  pub processes : after.processes ≡ e.processes
  -- what is left is that numbers were given, and nothing else
  pub numbers : after.serials ≡ e.serials + length fresh
  pub pairs : after.failing ≡ e.failing

abbrev pub FailedLeavesNothing : Type 0
FailedLeavesNothing =
    (lib : Library) (failing : Failing) (contents : Held) (h : List Entry) (pid : ℕ) (how : How) (m by : ℕ) (fresh : List Fresh) (calls : List Call)
    (gone : List Gone) →
    Follows lib failing contents h (failed_entry pid how m by fresh calls gone) →
    LeavesNothing lib failing (state_after lib failing h)
    (after_entry lib (state_after lib failing h) (failed_entry pid how m by fresh calls gone)) pid m by fresh gone
