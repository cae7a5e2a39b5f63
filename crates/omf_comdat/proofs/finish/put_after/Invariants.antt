use Rattle.omf_comdat.specs.Finishing.{ArePlaced}
use Rattle.omf_comdat.proofs.finish.put_after.Given as goal

abbrev pub invariant-loop-own : goal.invariant-loop-own
invariant-loop-own l = ArePlaced l.fn.segs l.fn.groups l.lens l.yielded (record { segs = l.segs; groups = l.groups; comdats = l.comdats })
