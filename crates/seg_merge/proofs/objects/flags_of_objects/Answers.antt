use Rattle.std.proofs.Common.{◌≡◌, ◌∙◌, ◌<◌, ap, sym, map, length, get_or, arith, ℕ, List}
use Rattle.std.proofs.lemmas.List.{length-map}
use Rattle.link_model.specs.Order.{same_object}
use Rattle.seg_parts.specs.LogicalSegments.{places}
use Rattle.seg_merge.specs.Laid.{keys_of}
use Rattle.seg_merge.specs.Ordered.{Ordered, ordered_shown}
use Rattle.seg_merge.proofs.Gets.{shown-at}
use Rattle.seg_merge.proofs.ObjectTable.{flags-new, flags-old}
use Rattle.seg_merge.proofs.objects.flags_of_objects.Goals as goal
use Rattle.seg_merge.proofs.objects.flags_of_objects.Goals.{then-objects-place+in_ok-push, else-objects-place}

pub loop-place-preserved : goal.loop-place-preserved
loop-place-preserved c =
    let os : List Ordered = map ordered_shown c.args.ordered.now in
    let i : ℕ = c.loop-place.place in
    let o : Ordered = ordered_shown c.index-ordered-place.result in
    let lt : i < length os = omega (arith, c.loop-place-test.true, length-map c.args.ordered.now ordered_shown) in
    let is : o ≡ get_or os i o = shown-at ordered_shown c.args.ordered.now i c.index-ordered-place.result c.loop-place-test.true c.index-ordered-place.is in
    let count : c.len.result ≡ length c.loop-place.flags.items = omega (arith, c.len.ensures, c.loop-place.flags.ok) in
    let at : get_or c.args.objects.now i 0 ≡ get_or (places same_object (keys_of os)) i 0 = ap (λ (t : List ℕ). get_or t i 0) c.requires in
    elim c.if-objects-place.branch [
      | then-objects-place+in_ok-push w ↦
          flags-new os i o c.loop-place.flags.items c.if-objects-place.flags.items lt is c.loop-place.invariant (sym at ∙ w.if-objects-place.true ∙ count)
          (ap (λ v. v.items) w.flags-is ∙ w.in_ok-push.ensures.items)
      | else-objects-place w ↦
          flags-old os i o c.loop-place.flags.items c.if-objects-place.flags.items lt is c.loop-place.invariant (λ e. w.if-objects-place.false (at ∙ e ∙ sym count))
          (ap (λ v. v.items) w.flags-is)
    ]
