use Rattle.std.proofs.Common.{◌≡◌, ℕ, ◌≤◌, ◌<◌, false}
use Rattle.load_model.specs.Modules.{Library}
use Rattle.load_model.specs.State.{Process, Eager, with_process, reaches}
use Rattle.mod_refs.specs.AllCounts.{AreCountsOfAll}
use Rattle.mod_refs.proofs.refs.Refs.reached_beside.Given as goal

-- No process so far reaches the module, where this one would be another that does not.
abbrev pub invariant-loop-other : goal.invariant-loop-other
invariant-loop-other l = record {
  least : 1 ≤ l.other;
  none :
      (lib : Library) (e : Eager) (p : Process) → AreCountsOfAll lib e l.self → reaches lib p l.m ≡ false → (q : ℕ) → 1 ≤ q → q < l.other →
      reaches lib ((with_process e l.pid p).processes q) l.m ≡ false;
}
