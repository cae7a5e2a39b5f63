use Rattle.std.proofs.Common.{take}
use Rattle.comdat_core.specs.Nothing.{AreEmpty}
use Rattle.comdat_core.proofs.aside.are_empty.Given as goal

abbrev pub invariant-loop-list : goal.invariant-loop-list
invariant-loop-list l = AreEmpty (take l.list-index l.lists)
