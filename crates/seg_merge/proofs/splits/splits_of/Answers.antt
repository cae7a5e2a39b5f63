use Rattle.std.proofs.Common.{◌∙◌, ap, sym, map, min, fold, length, ℕ, List, refl}
use Rattle.seg_merge.proofs.UseWalk.{own-is}
use Rattle.seg_merge.proofs.SplitMarks.{no-marks, marks-step}
use Rattle.seg_merge.proofs.splits.splits_of.Goals as goal

pub loop-place-init : goal.loop-place-init
loop-place-init c = no-marks (length c.args.known.now) c.args.known.now c.in_ok-split.split.items c.in_ok-split.ensures

pub loop-place-preserved : goal.loop-place-preserved
loop-place-preserved c =
    let own : List ℕ = c.as_slice-in-loop-place.result.now in
    marks-step (length c.args.known.now) c.loop-place.place c.args.known.now (map (λ v. v.items) c.args.lists.now) c.args.flags.now own _ c.least-first.result c.loop-place.split.items c.mark_all.new.split.items
    (own-is (λ v. v.items) c.args.lists.now c.loop-place.place c.index-lists-place.result own c.loop-place-test.true c.index-lists-place.is c.as_slice-in-loop-place.ensures.value) refl
    (c.least-first.ensures ∙ ap (λ (t : List ℕ). fold (λ (n : ℕ) (j : ℕ). min n j) (length c.args.known.now) t) (c.as_slice.ensures.value ∙ sym c.as_slice-in-loop-place.ensures.value))
    c.loop-place.invariant c.mark_all.ensures
