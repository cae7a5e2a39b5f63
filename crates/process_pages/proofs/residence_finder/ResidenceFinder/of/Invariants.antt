use Rattle.process_pages.proofs.Words.{AreRight, residences_in, take}
use Rattle.process_pages.proofs.residence_finder.ResidenceFinder.of.Given as goal

-- those of the residences so far
abbrev pub invariant-loop-k : goal.invariant-loop-k
invariant-loop-k l = AreRight l.finder (residences_in (take l.k l.residences))
