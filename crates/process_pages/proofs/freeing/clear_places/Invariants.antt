use Rattle.process_pages.proofs.Words.{without_places}
use Rattle.process_pages.proofs.Copies.{AreMapped}
use Rattle.process_pages.proofs.freeing.clear_places.Given as goal

abbrev pub invariant-loop-k : goal.invariant-loop-k
invariant-loop-k l = AreMapped without_places l.k l.residences l.initial.residences
