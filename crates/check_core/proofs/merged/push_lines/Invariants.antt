use Rattle.std.proofs.Common.{◌≡◌, ◌++◌, map, take}
use Rattle.check_core.specs.ToldItems.{item_shown, line_shown}
use Rattle.check_core.proofs.merged.push_lines.Given as goal

abbrev pub invariant-loop-told : goal.invariant-loop-told
invariant-loop-told l = map item_shown l.items.items ≡ map item_shown l.initial.items.items ++ map line_shown (take l.told-index l.lines)
