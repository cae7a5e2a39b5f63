use Rattle.std.proofs.Common.{sym, subst, take, List}
use Rattle.seg_parts.specs.declared.parts.Part.{Part}
use Rattle.seg_parts.specs.LogicalSegments.{AreSegmentsOf}
use Rattle.seg_parts.proofs.Lists.{take-push}
use Rattle.seg_parts.proofs.logical_segments.segments_of.Goals as goal

pub loop-part-preserved : goal.loop-part-preserved
loop-part-preserved c =
    subst (λ (t : List Part). AreSegmentsOf c.add.new.self.names.keys t c.add.new.self.heads.items c.add.new.self.numbers.items)
    (sym (take-push c.as_slice-part-items.result.now c.loop-part.part-index c.part-item.result c.loop-part-test.true c.part-item.is))
    (c.in_ok-add.ensures (take c.loop-part.part-index c.as_slice-part-items.result.now) c.loop-part.invariant)
