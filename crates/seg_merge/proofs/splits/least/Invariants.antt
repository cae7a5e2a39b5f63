use Rattle.std.proofs.Common.{◌≡◌, take, min, ℕ}
use Rattle.std.specs.List.{fold}
use Rattle.seg_merge.proofs.splits.least.Given as goal

abbrev pub invariant-loop-group : goal.invariant-loop-group
invariant-loop-group l = l.first ≡ fold (λ (a : ℕ) (g : ℕ). min a g) l.count (take l.group-index l.groups)
