use Rattle.std.proofs.Common.{◌≡◌, ◌++◌, map, take}
use Rattle.std.specs.List.{All}
use Rattle.lx_types.specs.Names.{IsName}
use Rattle.def_write.specs.Names.{SegmentNames}
use Rattle.def_write.specs.Writing.{segment_tokens, items_text}
use Rattle.def_write.proofs.writing.put_segments.Given as goal

-- The items so far are written, and their names are short.
abbrev pub invariant-loop-segment : goal.invariant-loop-segment
invariant-loop-segment l =
    (l.out.items ≡ l.fn.out.items ++ items_text (map segment_tokens (take l.segment-index l.segs)))
    × All (λ s. SegmentNames IsName s) (take l.segment-index l.segs)
