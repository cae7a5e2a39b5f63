use Rattle.std.proofs.Common.{◌≡◌, ℕ, ◌≤◌, ◌<◌, false}
use Rattle.load_model.specs.Modules.{Library}
use Rattle.load_model.specs.State.{Eager, reaches}
use Rattle.mod_refs.specs.AllCounts.{AreCountsOfAll}
use Rattle.mod_refs.proofs.refs.Refs.resident.Given as goal

-- No process so far reaches the module.
abbrev pub invariant-loop-pid : goal.invariant-loop-pid
invariant-loop-pid l = record {
  least : 1 ≤ l.pid;
  none : (lib : Library) (e : Eager) → AreCountsOfAll lib e l.self → (q : ℕ) → 1 ≤ q → q < l.pid → reaches lib (e.processes q) l.m ≡ false;
}
