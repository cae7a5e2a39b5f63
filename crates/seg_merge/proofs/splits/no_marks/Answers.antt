use Rattle.std.proofs.Common.{◌∙◌, ◌++◌, ◌∷◌, [], ap, sym, ℕ, List, Bool, false}
use Rattle.seg_parts.proofs.Ranges.{range-more}
use Rattle.seg_merge.proofs.splits.no_marks.Goals as goal

pub loop-place-preserved : goal.loop-place-preserved
loop-place-preserved c =
    let f : ℕ → Bool = λ n. false in
    c.in_ok-push.ensures.items ∙ ap (λ (t : List Bool). t ++ f c.loop-place._place ∷ []) c.loop-place.invariant ∙ sym (range-more f c.loop-place._place)
