use Rattle.std.proofs.Common.{◌≡◌, ◌∙◌, ◌<◌, ap, sym, map, length, arith, ℕ, List, Some, refl}
use Rattle.std.proofs.lemmas.List.{length-map}
use Rattle.link_model.specs.Parts.{Part}
use Rattle.seg_parts.specs.Parts.{shown}
use Rattle.seg_merge.proofs.SegmentSpots.{commons-in, commons-out}
use Rattle.seg_merge.proofs.UseWalk.{part-at}
use Rattle.seg_merge.proofs.placing_spots.commons_of.Goals as goal
use Rattle.seg_merge.proofs.placing_spots.commons_of.Goals.{then-is_communal+in_ok-push, else-is_communal}

pub loop-place-preserved : goal.loop-place-preserved
loop-place-preserved c =
    let ps : List Part = map shown c.args.parts.now in
    let i : ℕ = c.loop-place.place in
    let x = c.index-parts-place.result in
    let long : length ps ≡ length c.args.parts.now = length-map c.args.parts.now shown in
    let lt : i < length ps = omega (arith, long, c.loop-place-test.true) in
    let is = part-at c.args.parts.now ps i x refl c.loop-place-test.true c.index-parts-place.is in
    elim c.if-is_communal.branch [
      | then-is_communal+in_ok-push w ↦
          commons-in ps c.args.places.now i (shown x) _ _ c.loop-place.commons.items c.if-is_communal.commons.items (c.requires ∙ sym long) lt is
          (sym c.is_communal.ensures ∙ w.if-is_communal.true) refl c.loop-place.invariant (ap (λ v. v.items) w.commons-is ∙ w.in_ok-push.ensures.items)
      | else-is_communal w ↦
          commons-out ps c.args.places.now i (shown x) c.if-is_communal.commons.items lt is (sym c.is_communal.ensures ∙ w.if-is_communal.false)
          (λ place are. ap (λ v. map (λ q. Some q) v.items) w.commons-is ∙ c.loop-place.invariant place are)
    ]
