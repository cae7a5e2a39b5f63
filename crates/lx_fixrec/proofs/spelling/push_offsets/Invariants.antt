use Rattle.std.proofs.Common.{◌≡◌, ◌++◌, take}
use Rattle.std.specs.List.{flat_map}
use Rattle.lx_model.specs.RecordSpelling.{offset_spelling}
use Rattle.lx_fixrec.proofs.spelling.push_offsets.Given as goal

-- the offsets so far
abbrev pub invariant-loop-offset : goal.invariant-loop-offset
invariant-loop-offset l = l.out.items ≡ l.fn.out.items ++ flat_map offset_spelling (take l.offset-index l.offsets)
