-- The bytes are those under the writes so far.
use Rattle.std.proofs.Common.{◌≡◌, ◌<◌, ◌+◌, ℕ, length, slice_index, take}
use Rattle.load_model.specs.Memory.{last_put}
use Rattle.write_overlay.specs.Laid.{writes_to}
use Rattle.write_overlay.proofs.overlay.lay.Given as goal

abbrev pub invariant-loop-write : goal.invariant-loop-write
invariant-loop-write l =
    (k : ℕ) → k < length l.fn.into → slice_index l.into k ≡ last_put (writes_to l.object (take l.write-index l.writes)) (l.offset + k) (slice_index l.fn.into k)
