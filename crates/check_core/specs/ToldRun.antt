-- What a transcript tells, as code has it, and what is wrong at its last line.
use Rattle.std.specs.Prelude.{ℕ, Bool, true, false, Option, Some, None}
use Rattle.check_model.specs.declared.kinds.CheckFault.{CheckFault}
use Rattle.check_model.specs.declared.kinds.CheckKind.TheVariants as kinds
use Rattle.check_model.specs.Told.{Told}
use Rattle.check_core.specs.declared.told.ToldRun.{ToldRun}

abbrev pub told_of : ToldRun → Told
told_of t = record { run = record { history = t.history.now; steady = t.steady.now }; counts = t.counts }

-- by whether no command is left, and whether the numbers are the run's
abbrev pub summary_of : ℕ → Bool → Bool → Option CheckFault
summary_of line false counted = Some (record { line = line; kind = kinds.Command })
summary_of line true false = Some (record { line = line; kind = kinds.Count })
summary_of line true true = None
