use Rattle.std.proofs.Common.{◌<◌, length, arith}
use Rattle.lx_types.specs.Names.{IsName}
use Rattle.obj_types.specs.declared.definition.SegAttrs.{SegAttrs}
use Rattle.def_write.specs.Names.{SegmentNames}
use Rattle.def_write.specs.Writing.{segment_tokens}
use Rattle.def_write.proofs.WritingLaws.{written_more, all_more}
use Rattle.def_write.proofs.writing.put_segments.Goals as goal

pub loop-segment-preserved : goal.loop-segment-preserved
loop-segment-preserved c =
    let i = c.loop-segment.segment-index in
    let xs = c.args.segs.now in
    let x = c.segment-item.result in
    let within : i < length xs = omega arith in (
      written_more segment_tokens c.args.out.now.items c.loop-segment.out.items c.put_segment.new.out.items xs i x within c.segment-item.is c.loop-segment.invariant.0
          c.in_ok-put_segment.ensures.text,
      all_more (λ (s : SegAttrs). SegmentNames IsName s) xs i x within c.segment-item.is c.loop-segment.invariant.1 c.in_ok-put_segment.ensures.short,
    )
