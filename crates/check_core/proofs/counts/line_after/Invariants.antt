use Rattle.std.proofs.Common.{◌≡◌, drop}
use Rattle.check_model.specs.Places.{after_entries}
use Rattle.check_core.proofs.counts.line_after.Given as goal

abbrev pub invariant-loop-entry : goal.invariant-loop-entry
invariant-loop-entry l = after_entries l.line (drop l.entry-index l.history) ≡ after_entries l.fn.first l.history
