use Rattle.residence_tests.specs.Kept.{KeptSound}
use Rattle.residence_tests.proofs.rows.told_over.Given as goal

abbrev pub invariant-loop-pid : goal.invariant-loop-pid
invariant-loop-pid l = KeptSound l.lib l.kept
