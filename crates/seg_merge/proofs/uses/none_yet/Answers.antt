use Rattle.std.proofs.Common.{◌∙◌, ◌++◌, ◌∷◌, [], ap, sym, ℕ, List, Option, None, Bool}
use Rattle.seg_parts.proofs.Ranges.{range-more}
use Rattle.seg_merge.proofs.uses.none_yet.Goals as goal

pub loop-place-preserved : goal.loop-place-preserved
loop-place-preserved c =
    let f : ℕ → Option Bool = λ n. None in
    c.in_ok-push.ensures.items ∙ ap (λ (t : List (Option Bool)). t ++ f c.loop-place._place ∷ []) c.loop-place.invariant ∙ sym (range-more f c.loop-place._place)
