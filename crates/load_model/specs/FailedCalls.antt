-- What a load calls whose initialisation fails.
use Rattle.std.specs.Prelude.{◌≡◌, ℕ, true, false, List, [], ◌∷◌, ◌++◌, filter_map, reverse}
use Rattle.std.specs.List.{list_any}
use Rattle.load_model.specs.declared.deeds.How.{How}
use Rattle.load_model.specs.declared.deeds.Call.{Call}
use Rattle.load_model.specs.declared.deeds.Fresh.{Fresh}
use Rattle.load_model.specs.declared.deeds.Gone.{Gone}
use Rattle.load_model.specs.declared.deeds.Entry.{Entry}
use Rattle.load_model.specs.Modules.{Library, Held}
use Rattle.load_model.specs.State.{Failing, Eager}
use Rattle.load_model.specs.Entering.{joined, newcomers, after_entering, entering_calls}
use Rattle.load_model.specs.Initialising.{is_failing}
use Rattle.load_model.specs.Leaving.{term_of}
use Rattle.load_model.specs.Histories.{state_after, Follows}
use Rattle.load_model.specs.FailedLoads.{failed_entry}

-- How the calls of a failed load fall apart, in the state before it.
pub record CallsOfFailed (lib : Library) (e : Eager) (pid : ℕ) (how : How) (m by : ℕ) (fresh : List Fresh) (calls : List Call) : Type 0 where
  -- of the calls that the load would make: those before one, that one, and those that are not made
  pub begun : List Call
  pub last : Call
  pub not_made : List Call
  pub would : entering_calls lib e pid how m fresh ≡ begun ++ last ∷ not_made
  -- that one is the first that fails, and the module is its own
  pub none_before : list_any (is_failing e pid) begun ≡ false
  pub fails : is_failing e pid last ≡ true
  pub failed : last.«module» ≡ by
  -- what was attached before that module, and after it
  pub earlier : List ℕ
  pub later : List ℕ
  pub attached : joined lib e pid m ≡ earlier ++ by ∷ later
  -- Called are the calls up to that one, and then the terminations of what was attached earlier, the last first:
  -- each as where the process leaves it, in the state in which the load had succeeded.
  pub told :
      calls ≡ (begun ++ last ∷ []) ++ filter_map (term_of lib (after_entering lib e pid how m fresh) (newcomers lib e pid m)) (reverse earlier)

abbrev pub FailedCallsTold : Type 0
FailedCallsTold =
    (lib : Library) (failing : Failing) (contents : Held) (h : List Entry) (pid : ℕ) (how : How) (m by : ℕ) (fresh : List Fresh) (calls : List Call)
    (gone : List Gone) →
    Follows lib failing contents h (failed_entry pid how m by fresh calls gone) →
    CallsOfFailed lib (state_after lib failing h) pid how m by fresh calls
