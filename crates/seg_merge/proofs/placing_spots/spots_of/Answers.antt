use Rattle.std.proofs.Common.{◌∙◌, ◌∷◌, ◌<◌, [], ap, sym, map, subst, length, arith, ℕ, List}
use Rattle.std.proofs.lemmas.List.{length-map, map-append, get_or-map}
use Rattle.std.specs.Borrow.{Bor}
use Rattle.obj_types.specs.declared.object.Seg.{Seg}
use Rattle.obj_types.specs.declared.object.ObjModule.{ObjModule}
use Rattle.seg_merge.specs.Placing.{TakesPlaces}
use Rattle.seg_merge.proofs.SegmentSpots.{modules-more}
use Rattle.seg_merge.proofs.placing_spots.spots_of.Goals as goal

pub loop-object-preserved : goal.loop-object-preserved
loop-object-preserved c =
    let now : Bor ObjModule → ObjModule = λ m. m.now in
    let i : ℕ = c.loop-object.object-index in
    let m = c.object-item.result in
    let lt : i < length (map now c.args.modules.now) = omega (arith, length-map c.args.modules.now now, c.loop-object-test.true) in
    let row = c.in_ok-spots_in.field-0.items in
    modules-more (map now c.args.modules.now) c.args.places.now c.loop-object.next c.spots_in.new.next i (map (λ v. v.items) c.loop-object.spots.items) (map (λ v. v.items) c.push.new.self.items) m.now row
    lt (ap now c.object-item.is ∙ sym (get_or-map now c.args.modules.now i m m.now c.loop-object-test.true))
    (subst (λ (t : List Seg). TakesPlaces t c.args.places.now c.loop-object.next c.spots_in.new.next row) c.as_slice.ensures c.in_ok-spots_in.ensures)
    c.loop-object.invariant
    (ap (map (λ v. v.items)) c.in_ok-push.ensures.items ∙ map-append (λ v. v.items) c.loop-object.spots.items (c.in_ok-spots_in.field-0 ∷ []))
