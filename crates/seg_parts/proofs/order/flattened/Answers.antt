use Rattle.std.proofs.Common.{◌∙◌, ◌++◌, ◌∷◌, [], ap, sym, map, take}
use Rattle.std.specs.List.{concat}
use Rattle.std.proofs.lemmas.List.{append-nil}
use Rattle.std.proofs.lemmas.List.Folds.{concat-append}
use Rattle.link_types.proofs.Lists.{map-more}
use Rattle.seg_parts.proofs.order.flattened.Goals as goal

pub loop-list-preserved : goal.loop-list-preserved
loop-list-preserved c =
    let x = c.list-item.result in
    let before = map (λ v. v.items) (take c.loop-list.list-index c.args.lists.now) in
    c.in_ok-extend_from_slice.ensures.items
    ∙ ap (λ t. t ++ c.as_slice.result.now) c.loop-list.invariant
    ∙ ap (λ t. concat before ++ t) (c.as_slice.ensures.value ∙ sym (append-nil x.items))
    ∙ sym (concat-append before (x.items ∷ []))
    ∙ ap concat (sym (map-more (λ v. v.items) c.args.lists.now c.loop-list.list-index x c.loop-list-test.true c.list-item.is))
