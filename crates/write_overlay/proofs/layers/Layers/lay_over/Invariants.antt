-- What was written stands over the bytes as far as it was laid.
use Rattle.std.proofs.Common.{◌≡◌, ◌≤◌, ◌-◌, ℕ, length, slice_index}
use Rattle.write_overlay.proofs.Layering.{over_so_far}
use Rattle.write_overlay.proofs.layers.Layers.lay_over.Given as goal

abbrev pub invariant-loop-done : goal.invariant-loop-done
invariant-loop-done l =
    (l.done ≤ length l.into) × ((k : ℕ) → slice_index l.into k ≡ over_so_far l.self l.object l.offset l.done k (slice_index l.fn.into k))

abbrev pub decreases-loop-done : goal.decreases-loop-done
decreases-loop-done l = length l.into - l.done
