-- The bytes stand in their pages as far as they were put.
use Rattle.std.proofs.Common.{◌≡◌, ◌≤◌, ◌-◌, ℕ, length}
use Rattle.write_overlay.specs.Layered.{AreMade, byte_laid}
use Rattle.write_overlay.proofs.Layering.{put_in_so_far}
use Rattle.write_overlay.proofs.layers.Layers.put_made.Given as goal

abbrev pub invariant-loop-done : goal.invariant-loop-done
invariant-loop-done l =
    (l.done ≤ length l.bytes) × AreMade l.self l.object l.offset (length l.bytes)
    × ((q x : ℕ) → byte_laid l.self q x ≡ put_in_so_far l.object l.bytes l.offset l.done q x (byte_laid l.fn.self q x))

abbrev pub decreases-loop-done : goal.decreases-loop-done
decreases-loop-done l = length l.bytes - l.done
