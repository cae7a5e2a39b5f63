use Rattle.std.proofs.Common.{◌≡◌, ℕ}
use Rattle.link_fix.specs.Images.{byte_of}
use Rattle.link_fix.proofs.painting.empty_rows.Given as goal

abbrev pub invariant-loop-index : goal.invariant-loop-index
invariant-loop-index l = (n : ℕ) (x : ℕ) → byte_of l.rows n x ≡ 0
