use Rattle.std.proofs.Common.{◌≡◌, drop}
use Rattle.check_model.specs.Places.{after_scripts}
use Rattle.check_core.proofs.whole.line_after_scripts.Given as goal

abbrev pub invariant-loop-script : goal.invariant-loop-script
invariant-loop-script l = after_scripts l.line (drop l.script-index l.steady) ≡ after_scripts l.fn.first l.steady
