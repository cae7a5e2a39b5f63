use Rattle.std.proofs.Common.{ℕ, ◌<◌}
use Rattle.std.specs.List.{AllByRecursion}
use Rattle.load_model.specs.Modules.{name_of}
use Rattle.check_model.specs.Told.{IsByte}
use Rattle.transcript_whole.proofs.names.has_names.Given as goal

abbrev pub invariant-loop-m : goal.invariant-loop-m
invariant-loop-m l = (k : ℕ) → k < l.m → AllByRecursion IsByte (name_of l.lib k)
