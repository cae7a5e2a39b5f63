use Rattle.std.proofs.Common.{◌≡◌, take}
use Rattle.lx_model.specs.TableSpelling.{objects_spelling}
use Rattle.lx_head.proofs.tables.write_objects.Given as goal

-- the entries so far
abbrev pub invariant-loop-head : goal.invariant-loop-head
invariant-loop-head l = l.out.items ≡ objects_spelling (take l.head-index l.heads)
