use Rattle.std.proofs.Common.{◌≡◌, ◌++◌, drop}
use Rattle.lx_types.specs.Escaped.{escaped}
use Rattle.lx_types.proofs.escaped.push_escaped.Given as goal

abbrev pub invariant-loop-byte : goal.invariant-loop-byte
invariant-loop-byte l = l.out.items ++ escaped (drop l.byte-index l.name) ≡ l.initial.out.items ++ escaped l.name
