-- The pages are made as far as the bytes were looked at.
use Rattle.std.proofs.Common.{◌≡◌, ◌≤◌, ◌-◌, ℕ, length}
use Rattle.write_overlay.specs.Layered.{AreMade, byte_laid}
use Rattle.write_overlay.proofs.layers.Layers.make_pages.Given as goal

abbrev pub invariant-loop-done : goal.invariant-loop-done
invariant-loop-done l =
    (l.done ≤ length l.bytes) × AreMade l.self l.object l.offset l.done × ((q x : ℕ) → byte_laid l.self q x ≡ byte_laid l.fn.self q x)

abbrev pub decreases-loop-done : goal.decreases-loop-done
decreases-loop-done l = length l.bytes - l.done
