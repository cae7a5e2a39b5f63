use Rattle.process_pages.proofs.Words.{length, None, object_of, pages_of, replicate, slice_index_or, ℕ, [], ◌+◌, ◌<◌, ◌≡◌}
use Rattle.process_pages.proofs.page_rows.PageRows.new.Given as goal

abbrev pub invariant-loop-before : goal.invariant-loop-before
invariant-loop-before l =
    (length l.rows.items ≡ l.before) × ((k : ℕ) → k < l.before → slice_index_or l.rows.items k [] ≡ replicate (pages_of (object_of l.m (k + 1))) None)
