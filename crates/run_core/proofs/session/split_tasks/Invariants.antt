use Rattle.run_core.proofs.Words.{lines_of, map, proc_of, ◌≡◌}
use Rattle.run_core.proofs.session.split_tasks.Given as goal

abbrev pub invariant-loop-task : goal.invariant-loop-task
invariant-loop-task l = (l.procs.items ≡ map proc_of l.yielded) × (l.steady.items ≡ map lines_of l.yielded)
