use Rattle.std.proofs.Common.{◌≡◌, map, take}
use Rattle.seg_parts.specs.Order.{gathered}
use Rattle.seg_parts.proofs.order.gathered.Given as goal

abbrev pub invariant-loop-place : goal.invariant-loop-place
invariant-loop-place l = map (λ v. v.items) l.lists.items ≡ gathered (take l.place l.numbers) l.count
