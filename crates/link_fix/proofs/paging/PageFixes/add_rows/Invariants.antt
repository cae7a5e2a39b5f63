use Rattle.std.proofs.Common.{◌≡◌, ◌+◌, ℕ, length, ◌-◌}
use Rattle.link_fix.specs.Paging.{fixes_of}
use Rattle.link_fix.proofs.paging.PageFixes.add_rows.Given as goal

abbrev pub invariant-rows : goal.invariant-rows
invariant-rows l = (n : ℕ) (k : ℕ) → fixes_of l.self n k ≡ fixes_of l.fn.self n k

abbrev pub decreases-rows : goal.decreases-rows
decreases-rows l = l.number + 1 - length l.self.rows.items
