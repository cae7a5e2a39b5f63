use Rattle.process_view.proofs.Words.{HaveNone, length, module_of, slice_index_or, ℕ, [], ◌<◌, ◌≡◌}
use Rattle.process_view.proofs.view.View.rows_for.Given as goal

abbrev pub invariant-loop-m : goal.invariant-loop-m
invariant-loop-m l =
    (length l.rows.items ≡ l.m-index) × ((k : ℕ) → k < l.m-index → HaveNone (module_of l.self.library (slice_index_or l.modules k 0)) (slice_index_or l.rows.items k []))
