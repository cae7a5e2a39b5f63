-- The run stands there as far as it was put.
use Rattle.std.proofs.Common.{◌≡◌, ◌+◌, ◌-◌, ◌&&◌, ℕ, cond, nat_lt, slice_index, slice_index_or}
use Rattle.std.specs.Prelude.{nat_le, Some, None}
use Rattle.write_overlay.proofs.layer.put_run.Given as goal

abbrev pub invariant-loop-k : goal.invariant-loop-k
invariant-loop-k l =
    (i : ℕ) → slice_index_or l.bytes i None ≡ cond (nat_le l.place i && nat_lt i (l.place + l.k)) (Some (slice_index l.run (i - l.place))) (slice_index_or l.fn.bytes i None)
