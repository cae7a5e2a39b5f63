use Rattle.std.proofs.Common.{◌≡◌, ◌++◌, ◌∷◌, length, take}
use Rattle.lx_types.specs.Names.{uppercase}
use Rattle.omf_write.proofs.fields.push_uppercase.Given as goal

abbrev pub invariant-loop-byte : goal.invariant-loop-byte
invariant-loop-byte l = l.out.items ≡ l.fn.out.items ++ length l.bytes ∷ uppercase (take l.byte-index l.bytes)
