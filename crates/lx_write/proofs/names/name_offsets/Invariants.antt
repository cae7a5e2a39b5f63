use Rattle.std.proofs.Common.{◌≡◌, ◌++◌, drop}
use Rattle.lx_write.proofs.NameOffsets.{offsets_from}
use Rattle.lx_write.proofs.names.name_offsets.Given as goal

abbrev pub invariant-loop-name : goal.invariant-loop-name
invariant-loop-name l = l.offsets.items ++ offsets_from l.at (drop l.name-index l.names) ≡ offsets_from 1 l.names
