use Rattle.std.proofs.Common.{◌≡◌, length}
use Rattle.stepped_runs.specs.OneThread.{AreViews}
use Rattle.stepped_runs.proofs.alone.new_views.Given as goal

abbrev pub invariant-loop-before : goal.invariant-loop-before
invariant-loop-before l = AreViews l.fn.board l.views.items × (length l.views.items ≡ l.before)
