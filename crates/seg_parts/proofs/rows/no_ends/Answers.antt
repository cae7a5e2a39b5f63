use Rattle.std.proofs.Common.{◌∙◌, ◌++◌, ◌∷◌, [], ap, sym, ℕ, List}
use Rattle.seg_parts.proofs.Ranges.{range-from-more}
use Rattle.seg_parts.proofs.rows.no_ends.Goals as goal

pub loop-place-preserved : goal.loop-place-preserved
loop-place-preserved c =
    c.in_ok-push.ensures.items ∙ ap (λ (t : List ℕ). t ++ 0 ∷ []) c.loop-place.invariant ∙ sym (range-from-more (λ (n : ℕ). 0) 1 c.loop-place._place)
