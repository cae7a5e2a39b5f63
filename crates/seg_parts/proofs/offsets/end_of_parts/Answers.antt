use Rattle.std.proofs.Common.{◌∙◌, ap}
use Rattle.seg_parts.specs.Offsets.{limited}
use Rattle.seg_parts.proofs.PartEnds.{past_all}
use Rattle.seg_parts.proofs.offsets.end_of_parts.Goals as goal

pub returns-in-None : goal.returns-in-None
returns-in-None c =
    past_all c.args.at c.loop-part.end c.args.parts.now c.loop-part.part-index c.part-item.result c.loop-part-test.true c.part-item.is c.loop-part.invariant.0
    (c.in-None.ensures ∙ ap limited c.part_end.ensures)
