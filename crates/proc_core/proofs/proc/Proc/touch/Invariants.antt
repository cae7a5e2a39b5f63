use Rattle.proc_core.proofs.Words.{◌-◌, IsOf}
use Rattle.proc_core.proofs.TouchedTo.{TouchedTo}
use Rattle.proc_core.proofs.proc.Proc.touch.Given as goal

abbrev pub invariant-loop-number : goal.invariant-loop-number
invariant-loop-number g l = TouchedTo l.fn.self l.self l.place (l.number - l.initial.number) l.fn.steps l.steps × IsOf l.loader l.self
