-- Each module so far has one less.
use Rattle.std.proofs.Common.{take}
use Rattle.mod_refs.specs.Counts.{AreCounted}
use Rattle.mod_refs.proofs.counting.count_out.Given as goal

abbrev pub invariant-loop-k : goal.invariant-loop-k
invariant-loop-k l = AreCounted (take l.k-index l.order) l.reached.items l.fn.reached.items
