use Rattle.proc_core.proofs.Words.{◌<◌, About, AllDealt, arc_value, IsNew, length, ProcState, Some, ℕ, ◌≡◌}
use Rattle.std.proofs.Common.{slice_index_or}
use Rattle.proc_core.proofs.loader.Loader.deal.Given as goal

abbrev pub invariant-loop-pass : goal.invariant-loop-pass
invariant-loop-pass l =
    goal.iterator-loop-pass.can_next l.pass-iterator × goal.iterator-loop-pass.is_finite l.pass-iterator × (length l.procs.items ≡ length l.yielded)
    × ((about : About) → about.library ≡ arc_value l.fn.lib → AllDealt l.fn.self (Some about) (length l.fn.passes.items) l.fn.passes.items →
    (k : ℕ) (d : ProcState) → k < length l.yielded → IsNew l.fn.self about (length l.fn.passes.items) k (slice_index_or l.procs.items k d))
