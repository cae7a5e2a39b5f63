use Rattle.std.proofs.Common.{arith}
use Rattle.seg_merge.proofs.Zipped.{zip-more}
use Rattle.seg_merge.proofs.laid.sizes_of.Goals as goal

pub loop-place-preserved : goal.loop-place-preserved
loop-place-preserved c =
    zip-more c.args.sizes.now c.args.flags.now c.loop-place.place _ _ c.loop-place.pairs.items c.push.new.self.items c.loop-place-test.true (omega (arith, c.loop-place-test.true, c.requires))
    c.loop-place.invariant c.in_ok-push.ensures.items
