use Rattle.std.proofs.Common.{◌-◌, ◌≤◌, length}
use Rattle.show_core.proofs.resources.item_with.Given as goal

abbrev pub invariant-items : goal.invariant-items
invariant-items l = l.at ≤ length l.bytes

abbrev pub decreases-items : goal.decreases-items
decreases-items l = length l.bytes - l.at
