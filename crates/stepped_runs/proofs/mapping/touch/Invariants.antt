use Rattle.stepped_runs.specs.OneThread.{MappedMore}
use Rattle.stepped_runs.proofs.mapping.touch.Given as goal

abbrev pub invariant-loop-number : goal.invariant-loop-number
invariant-loop-number g l = MappedMore l.fn.board l.board l.fn.view l.view
