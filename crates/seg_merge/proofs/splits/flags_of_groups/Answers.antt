use Rattle.std.proofs.Common.{map, refl}
use Rattle.seg_merge.proofs.UseWalk.{own-is}
use Rattle.seg_merge.proofs.SplitMarks.{no-flags, flags-step}
use Rattle.seg_merge.proofs.splits.flags_of_groups.Goals as goal

pub loop-place-init : goal.loop-place-init
loop-place-init c = no-flags c.args.count c.in_ok-known.known.items c.in_ok-known.ensures

pub loop-place-preserved : goal.loop-place-preserved
loop-place-preserved c =
    flags-step c.args.count c.loop-place.place (map (λ v. v.items) c.args.lists.now) c.args.flags.now c.as_slice.result.now _ c.loop-place.known.items c.flag_all.new.known.items
    (own-is (λ v. v.items) c.args.lists.now c.loop-place.place c.index-lists-place.result c.as_slice.result.now c.loop-place-test.true c.index-lists-place.is c.as_slice.ensures.value) refl
    c.loop-place.invariant c.flag_all.ensures
