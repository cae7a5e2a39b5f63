-- What was written stands over the bytes as far as it was laid.
use Rattle.std.proofs.Common.{◌≡◌, ◌+◌, ◌-◌, ◌&&◌, ℕ, cond, nat_lt, slice_index, slice_index_or}
use Rattle.std.specs.Prelude.{nat_le, None, unwrap_or}
use Rattle.write_overlay.proofs.layer.lay_run.Given as goal

abbrev pub invariant-loop-k : goal.invariant-loop-k
invariant-loop-k l =
    (i : ℕ) → slice_index l.into i ≡
    cond (nat_le l.place i && nat_lt i (l.place + l.k)) (unwrap_or (slice_index_or l.bytes (l.from + (i - l.place)) None) (slice_index l.fn.into i)) (slice_index l.fn.into i)
