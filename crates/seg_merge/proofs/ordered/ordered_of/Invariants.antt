use Rattle.std.proofs.Common.{◌≡◌, map, take}
use Rattle.seg_merge.specs.Ordered.{ordered_shown, table_at}
use Rattle.seg_merge.proofs.ordered.ordered_of.Given as goal

abbrev pub invariant-loop-number : goal.invariant-loop-number
invariant-loop-number l = map ordered_shown l.ordered.items ≡ map (table_at l.tables) (take l.number-index l.order)
