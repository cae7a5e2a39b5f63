use Rattle.process_pages.proofs.Words.{length, ◌≤◌}
use Rattle.process_pages.proofs.spare_pages.SparePages.fill.Given as goal

abbrev pub invariant-loop : goal.invariant-loop
invariant-loop l = l.counter ≤ length l.self-inside.buffers.items
