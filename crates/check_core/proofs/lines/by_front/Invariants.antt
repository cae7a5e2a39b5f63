use Rattle.std.proofs.Common.{◌≡◌, map, length, take}
use Rattle.check_core.specs.ToldItems.{line_shown, AreByFront}
use Rattle.check_core.proofs.lines.by_front.Given as goal

abbrev pub invariant-loop-told : goal.invariant-loop-told
invariant-loop-told l =
    (length l.lists.items ≡ l.count) × AreByFront (map (λ v. map line_shown v.items) l.lists.items) l.count (map line_shown (take l.told-index l.all))
