use Rattle.std.proofs.Common.{take}
use Rattle.comdat_core.specs.Judging.{HasNumbers}
use Rattle.comdat_core.proofs.judging.numbers_of.Given as goal

abbrev pub invariant-loop-index : goal.invariant-loop-index
invariant-loop-index l = HasNumbers l.input (take l.index l.picks) l.numbers
