use Rattle.std.proofs.Common.{◌≡◌, drop}
use Rattle.omf_write.specs.ObjectBytes.{name_records}
use Rattle.omf_write.specs.ObjectNames.{with_names, seg_names}
use Rattle.omf_write.proofs.tables.add_segments.Given as goal

abbrev pub invariant-loop-seg : goal.invariant-loop-seg
invariant-loop-seg l =
    (with_names l.names (seg_names (drop l.seg-index l.segs)) ≡ with_names l.fn.names (seg_names l.segs)) × (l.records.items ≡ name_records l.names)
