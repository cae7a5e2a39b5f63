use Rattle.std.proofs.Common.{◌∙◌, ◌++◌, ◌∷◌, [], ap, sym, map, ℕ, List}
use Rattle.std.proofs.lemmas.List.{map-append}
use Rattle.link_model.specs.Parts.{Part}
use Rattle.seg_parts.specs.Parts.{shown}
use Rattle.seg_parts.proofs.Ranges.{range-more}
use Rattle.seg_merge.proofs.segment_parts.no_parts.Goals as goal

pub loop-place-preserved : goal.loop-place-preserved
loop-place-preserved c =
    let f : ℕ → List Part = λ n. [] in
    ap (map (λ v. map shown v.items)) c.in_ok-push.ensures.items
    ∙ map-append (λ v. map shown v.items) c.loop-place.lists.items (c.new.result ∷ [])
    ∙ ap (λ t. map (λ v. map shown v.items) c.loop-place.lists.items ++ map shown t ∷ []) c.new.ensures.items
    ∙ ap (λ (t : List (List Part)). t ++ f c.loop-place._place ∷ []) c.loop-place.invariant
    ∙ sym (range-more f c.loop-place._place)
