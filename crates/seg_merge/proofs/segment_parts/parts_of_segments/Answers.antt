use Rattle.std.proofs.Common.{◌≡◌, ◌∙◌, ap, sym, map, take, length, get_or, arith, ℕ, List}
use Rattle.std.proofs.lemmas.List.{length-map}
use Rattle.link_model.specs.Parts.{Part}
use Rattle.seg_parts.specs.LogicalSegments.{heads_of}
use Rattle.seg_parts.specs.Parts.{shown}
use Rattle.seg_merge.proofs.UseWalk.{number-at, part-at}
use Rattle.seg_merge.proofs.PartsBySegment.{parts-step, lists-long, none-gathered}
use Rattle.seg_merge.proofs.segment_parts.parts_of_segments.Goals as goal

pub loop-place-init : goal.loop-place-init
loop-place-init c =
    none-gathered (heads_of c.args.segments.now) _ (map (λ v. map shown v.items) c.in_ok-lists.lists.items)
    (sym (length-map c.heads.result.now shown) ∙ ap length c.heads.ensures) c.in_ok-lists.ensures

pub index_mut-requires : goal.index_mut-requires
index_mut-requires c =
    let below = number-at c.parts-part-items.result.now c.args.segments.now c.numbers.result.now c.loop-place.place c.parts-part-items.ensures c.numbers.ensures c.loop-place-test.true in
    let len = lists-long (λ v. map shown v.items) c.loop-place.lists.items (heads_of c.args.segments.now) (take c.loop-place.place c.args.segments.now) c.loop-place.invariant in
    omega (arith, below, len, c.loop-place.lists.ok)

pub loop-place-preserved : goal.loop-place-preserved
loop-place-preserved c =
    let parts = c.parts-part-items.result.now in
    let ps : List Part = c.args.segments.now in
    let i : ℕ = c.loop-place.place in
    let len : length parts ≡ length ps = sym (length-map parts shown) ∙ ap length c.parts-part-items.ensures in
    parts-step (λ v. v.items) shown c.loop-place.lists.items ps i c.part-item.result (get_or c.numbers.result.now i 0) c.index_mut.result.now c.push.new.self
    (omega (arith, len, c.loop-place-test.true)) (part-at parts ps i c.part-item.result c.parts-part-items.ensures c.loop-place-test.true c.part-item.is) (ap (λ (t : List ℕ). get_or t i 0) c.numbers.ensures)
    c.loop-place.invariant c.index_mut.ensures.value c.in_ok-push.ensures.items
