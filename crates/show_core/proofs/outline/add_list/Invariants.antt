use Rattle.std.proofs.Common.{◌≡◌, length}
use Rattle.show_core.proofs.outline.add_list.Given as goal

abbrev pub invariant-loop-item : goal.invariant-loop-item
invariant-loop-item g l = length l.lines.items ≡ l.item-index
