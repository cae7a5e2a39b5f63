use Rattle.proc_core.proofs.Words.{◌+◌, ◌<◌, ProcState, ℕ, ◌≡◌}
use Rattle.std.proofs.Common.{slice_index_or}
use Rattle.proc_core.proofs.loader.are_in_order.Given as goal

abbrev pub invariant-loop-k : goal.invariant-loop-k
invariant-loop-k l = (j : ℕ) (d : ProcState) → j < l.k → (slice_index_or l.procs j d).known.pid ≡ j + 1
