use Rattle.std.proofs.Common.{◌≡◌, ◌+◌, ℕ, length, ◌-◌}
use Rattle.link_fix.specs.Images.{byte_of}
use Rattle.link_fix.proofs.images.Images.add_rows.Given as goal

abbrev pub invariant-rows : goal.invariant-rows
invariant-rows l = (n : ℕ) (x : ℕ) → byte_of l.self n x ≡ byte_of l.fn.self n x

abbrev pub decreases-rows : goal.decreases-rows
decreases-rows l = l.number + 1 - length l.self.rows.items
