use Rattle.std.proofs.Common.{take}
use Rattle.seg_parts.specs.LogicalSegments.{AreSegmentsOf}
use Rattle.seg_parts.proofs.logical_segments.segments_of.Given as goal

abbrev pub invariant-loop-part : goal.invariant-loop-part
invariant-loop-part l = AreSegmentsOf l.numbering.names.keys (take l.part-index l.part-items) l.numbering.heads.items l.numbering.numbers.items
