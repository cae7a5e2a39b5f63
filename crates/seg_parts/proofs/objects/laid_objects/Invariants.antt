use Rattle.std.proofs.Common.{◌≡◌, ◌≤◌, ◌+◌, ◌*◌, take}
use Rattle.std.proofs.Common.{ℕ}
use Rattle.std.specs.Prelude.{sum_by}
use Rattle.link_model.specs.Layout.{placed_from}
use Rattle.seg_parts.specs.Objects.{base_after}
use Rattle.seg_parts.proofs.objects.laid_objects.Given as goal

abbrev pub invariant-loop-pair : goal.invariant-loop-pair
invariant-loop-pair l =
    (l.objects ≡ placed_from l.first (take l.pair-index l.sizes))
    × (l.base ≡ base_after l.first (take l.pair-index l.sizes))
    × (l.base ≤ l.first + sum_by (λ (q : ℕ × ℕ). q.0) (take l.pair-index l.sizes) + 65536 * l.pair-index)
