-- The counts of all processes, in the order of their numbers.
use Rattle.std.specs.Prelude.{◌≡◌, ℕ, ◌-◌, ◌<◌, ◌≤◌, true, List, [], length, All, None, slice_index_or}
use Rattle.load_model.specs.Modules.{Library}
use Rattle.load_model.specs.State.{Process, Eager, pids, is_among}
use Rattle.lx_types.specs.declared.limits.TheConstants.{MAX_LOADS}
use Rattle.load_model.specs.ProcessCounts.{ProcessCounts, AreCountsOf}

-- counts without modules
abbrev pub no_counts : ProcessCounts
no_counts = record { started = None; loads = []; reached = []; attached = [] }

-- the counts of a process, whose number counts from 1
abbrev pub counts_at : List ProcessCounts → ℕ → ProcessCounts
counts_at all_counts pid = slice_index_or all_counts (pid - 1) no_counts

-- They are those of each process.
pub record AreCountsOfAll (lib : Library) (e : Eager) (all_counts : List ProcessCounts) : Type 0 where
  pub each : (pid : ℕ) → is_among pids pid ≡ true → AreCountsOf lib (e.processes pid) (counts_at all_counts pid)

-- ---- what all counts keep

-- The counts are those of some process that holds and has attached modules of the library, and of each holds no more loads than
-- it may.
pub record IsKept (lib : Library) (counts : ProcessCounts) : Type 0 where
  pub process : Process
  pub is : AreCountsOf lib process counts
  pub loads : All (λ m. m < length lib) process.loads
  pub attached : All (λ m. m < length lib) process.attached
  pub few : All (λ n. n ≤ MAX_LOADS) counts.loads

pub record AreKept (lib : Library) (all_counts : List ProcessCounts) : Type 0 where
  pub each : (pid : ℕ) → is_among pids pid ≡ true → IsKept lib (counts_at all_counts pid)

-- The counts have the module.
pub record HasModule (m : ℕ) (counts : ProcessCounts) : Type 0 where
  pub loads : m < length counts.loads
  pub reached : m < length counts.reached

-- The counts of each process have it.
abbrev pub HaveModule : ℕ → List ProcessCounts → Type 0
HaveModule m all_counts = (pid : ℕ) → is_among pids pid ≡ true → HasModule m (counts_at all_counts pid)
