use Rattle.std.proofs.Common.{◌++◌, ◌≤◌, ◌-◌, length}
use Rattle.lx_model.specs.Iterated.{groups_spelling}
use Rattle.lx_model.specs.Packed.{runs_of, groups_of_runs}
use Rattle.lx_iter.proofs.Runs.{Kept}
use Rattle.lx_iter.proofs.packing.push_runs.Given as goal

abbrev pub invariant-loop-at : goal.invariant-loop-at
invariant-loop-at l = record {
  before : l.once ≤ l.at;
  within : l.at ≤ length l.bytes;
  kept : Kept l.into.items l.bytes l.once l.at (l.fn.into.items ++ groups_spelling (groups_of_runs (runs_of l.bytes)));
}

abbrev pub decreases-loop-at : goal.decreases-loop-at
decreases-loop-at l = length l.bytes - l.at
