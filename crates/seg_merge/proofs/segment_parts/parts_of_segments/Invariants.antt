use Rattle.std.proofs.Common.{◌≡◌, map, take}
use Rattle.seg_parts.specs.LogicalSegments.{heads_of}
use Rattle.seg_parts.specs.Parts.{shown}
use Rattle.seg_merge.proofs.PartsBySegment.{gathered_parts}
use Rattle.seg_merge.proofs.segment_parts.parts_of_segments.Given as goal

abbrev pub invariant-loop-place : goal.invariant-loop-place
invariant-loop-place l = map (λ v. map shown v.items) l.lists.items ≡ gathered_parts (heads_of l.segments) (take l.place l.segments)
