use Rattle.std.proofs.Common.{◌∙◌, ◌++◌, ◌∷◌, [], ap, sym, ℕ, List, Option, None}
use Rattle.seg_parts.proofs.Ranges.{range-more}
use Rattle.seg_merge.proofs.splits.no_flags.Goals as goal

pub loop-place-preserved : goal.loop-place-preserved
loop-place-preserved c =
    let f : ℕ → Option ℕ = λ n. None in
    c.in_ok-push.ensures.items ∙ ap (λ (t : List (Option ℕ)). t ++ f c.loop-place._place ∷ []) c.loop-place.invariant ∙ sym (range-more f c.loop-place._place)
