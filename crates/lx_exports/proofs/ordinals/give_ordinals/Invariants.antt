use Rattle.lx_exports.proofs.GivenOrdinals.{Given}
use Rattle.lx_exports.proofs.ordinals.give_ordinals.Given as goal

abbrev pub invariant-loop-export : goal.invariant-loop-export
invariant-loop-export l = Given l.exports l.export-index l.from l.ordinals
