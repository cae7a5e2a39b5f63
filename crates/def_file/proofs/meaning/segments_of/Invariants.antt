use Rattle.std.proofs.Common.{◌≡◌, map}
use Rattle.def_model.specs.Meaning.{segment_of}
use Rattle.def_file.proofs.meaning.segments_of.Given as goal

abbrev pub invariant-loop-segment : goal.invariant-loop-segment
invariant-loop-segment l = l.rules ≡ map (segment_of l.code l.plain) l.yielded
