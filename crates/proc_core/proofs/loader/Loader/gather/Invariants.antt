use Rattle.proc_core.proofs.Words.{◌<◌, Idle, Joined, length, ProcState, ℕ, ◌≡◌, ◌≤◌}
use Rattle.std.specs.Prelude.{slice_index_or}
use Rattle.proc_core.proofs.loader.Loader.gather.Given as goal

abbrev pub invariant-loop-last : goal.invariant-loop-last
invariant-loop-last l =
    Joined l.fn.first l.fn.rest.items (length l.rest.items) l.into.me.0 × Idle l.into.me × (l.into.table_id ≡ l.fn.self)
    × (length l.rest.items ≤ length l.fn.rest.items)
    × ((k : ℕ) (d : ProcState) → k < length l.rest.items → slice_index_or l.rest.items k d ≡ slice_index_or l.fn.rest.items k d)

abbrev pub decreases-loop-last : goal.decreases-loop-last
decreases-loop-last l = goal.left-loop-last l
