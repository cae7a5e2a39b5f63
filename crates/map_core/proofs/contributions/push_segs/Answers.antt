use Rattle.map_core.specs.Places.{segment_text}
use Rattle.map_core.proofs.Loops.{numbered-pushed}
use Rattle.map_core.proofs.contributions.push_segs.Goals as goal

pub loop-place-preserved : goal.loop-place-preserved
loop-place-preserved c =
    numbered-pushed (segment_text c.args.lay.now c.args.by) 1 c.in_ok-count.field-0 c.args.segs.now c.loop-place.place c.index-segs-place.result c.args.out.now.items
    c.loop-place.out.items c.push_plain.new.out.items c.loop-place-test.true c.index-segs-place.is c.in_ok-count.ensures c.loop-place.invariant c.in_ok-push_plain.ensures
