use Rattle.std.proofs.Common.{◌<◌, length, arith, ℕ, refl}
use Rattle.seg_merge.proofs.UnitsMore.{objects-more, units-more, shown-is}
use Rattle.seg_merge.proofs.units.units_of.Goals as goal

pub loop-place-preserved : goal.loop-place-preserved
loop-place-preserved c =
    let i : ℕ = c.loop-place.place in
    let under : i < length c.args.objects.now = omega (arith, c.loop-place-test.true, c.requires) in (
      objects-more c.args.objects.now c.loop-place.units.items c.push.new.self.items i _ under c.loop-place.invariant.0 c.in_ok-push.ensures.items refl,
      units-more c.args.ordered.now c.args.objects.now c.stack_number-stack.result c.args.size c.loop-place.units.items c.push.new.self.items i c.index-ordered-place.result _ c.loop-place-test.true c.index-ordered-place.is c.loop-place.invariant.1 c.in_ok-push.ensures.items
          (shown-is c.index-ordered-place.result c.args.objects.now c.stack_number-stack.result c.args.size i c.least_of.result c.least_of.ensures),
    )
