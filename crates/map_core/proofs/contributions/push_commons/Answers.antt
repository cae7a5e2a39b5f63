use Rattle.std.proofs.Common.{arith}
use Rattle.map_core.specs.Places.{common_text}
use Rattle.map_core.proofs.Loops.{numbered-pushed}
use Rattle.map_core.proofs.contributions.push_commons.Goals as goal

pub loop-place-preserved : goal.loop-place-preserved
loop-place-preserved c =
    numbered-pushed (common_text c.args.lay.now) 0 c.in_ok-count.field-0 c.args.commons.now c.loop-place.place c.index-commons-place.result c.args.out.now.items
    c.loop-place.out.items c.push_common_at.new.out.items c.loop-place-test.true c.index-commons-place.is (omega (arith, c.in_ok-count.ensures)) c.loop-place.invariant c.in_ok-push_common_at.ensures
