use Rattle.std.proofs.Common.{◌≡◌, ◌==◌, filter, slice_index, take}
use Rattle.mod_refs.proofs.counting.uncounted.Given as goal

abbrev pub invariant-loop-k : goal.invariant-loop-k
invariant-loop-k l = l.modules.items ≡ filter (λ k. slice_index l.reached k == 0) (take l.k-index l.order)
