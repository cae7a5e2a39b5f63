use Rattle.std.proofs.Common.{◌≡◌, ◌++◌, take}
use Rattle.std.specs.List.{AllByRecursion, flat_map}
use Rattle.omf_write.specs.ObjectBytes.{segdef_record}
use Rattle.omf_write.specs.ObjectFits.{SegFits}
use Rattle.omf_write.proofs.segments.push_segments.Given as goal

abbrev pub invariant-loop-seg : goal.invariant-loop-seg
invariant-loop-seg l = (l.out.items ≡ l.fn.out.items ++ flat_map (segdef_record l.names) (take l.seg-index l.segs)) × AllByRecursion SegFits (take l.seg-index l.segs)
