use Rattle.std.proofs.Common.{◌≡◌, ◌+◌, ℕ, length, ◌-◌}
use Rattle.link_fix.specs.Paging.{page_in}
use Rattle.link_fix.proofs.paging.add_pages.Given as goal

abbrev pub invariant-pages : goal.invariant-pages
invariant-pages l = (k : ℕ) → page_in l.row.items k ≡ page_in l.fn.row.items k

abbrev pub decreases-pages : goal.decreases-pages
decreases-pages l = l.number + 1 - length l.row.items
