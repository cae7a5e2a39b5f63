use Rattle.std.proofs.Common.{◌∙◌, ◌+◌, ap, sym, subst, arith, ℕ}
use Rattle.seg_merge.proofs.SegmentSpots.{SegsTaken, segs-debug, segs-plain, segs-end}
use Rattle.seg_merge.proofs.placing_spots.spots_in.Goals as goal
use Rattle.seg_merge.proofs.placing_spots.spots_in.Goals.{then-seg+in_ok-push, else-seg+in_ok-push-2}

pub loop-seg-preserved : goal.loop-seg-preserved
loop-seg-preserved c = elim c.if-seg.branch [
  | then-seg+in_ok-push w ↦
      subst (λ (n : ℕ). SegsTaken c.args.segs.now c.args.places.now c.args.next.now n (c.loop-seg.seg-index + 1) c.if-seg.row.items) (sym w.next-is)
      (segs-debug c.args.segs.now c.args.places.now c.args.next.now c.loop-seg.next c.loop-seg.seg-index c.loop-seg.row.items c.if-seg.row.items c.seg-item.result
      c.loop-seg-test.true c.seg-item.is w.if-seg.true c.loop-seg.invariant (ap (λ v. v.items) w.row-is ∙ w.in_ok-push.ensures.items))
  | else-seg+in_ok-push-2 w ↦
      segs-plain c.args.segs.now c.args.places.now c.args.next.now c.loop-seg.next c.loop-seg.seg-index c.loop-seg.row.items c.if-seg.row.items c.seg-item.result w.next_place.result c.if-seg.next
      c.loop-seg-test.true c.seg-item.is w.if-seg.false w.next_place.ensures.place (w.next-is ∙ w.next_place.ensures.next) c.loop-seg.invariant
      (ap (λ v. v.items) w.row-is ∙ w.in_ok-push-2.ensures.items)
]

pub returns : goal.returns
returns c =
    segs-end c.args.segs.now c.args.places.now c.args.next.now c.loop-seg.next c.loop-seg.seg-index c.loop-seg.row.items
    (omega (arith, c.loop-seg-test.false, c.loop-seg.auto)) c.loop-seg.invariant
