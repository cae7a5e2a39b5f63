-- The counts are those of the modules so far, and each of these that had none is attached.
use Rattle.std.proofs.Common.{◌≡◌, ◌++◌, ◌==◌, filter, slice_index, take}
use Rattle.mod_refs.specs.Counts.{AreAttached, AreCounted}
use Rattle.mod_refs.proofs.counting.count_in.Given as goal

abbrev pub invariant-loop-k : goal.invariant-loop-k
invariant-loop-k l = record {
  reached : AreCounted (take l.k-index l.order) l.fn.reached.items l.reached.items;
  attached : l.attached.items ≡ l.fn.attached.items ++ filter (λ k. slice_index l.fn.reached.items k == 0) (take l.k-index l.order);
  kept : AreAttached l.reached.items l.attached.items;
}
