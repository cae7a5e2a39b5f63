use Rattle.std.proofs.Common.{◌≡◌, filter, not, take}
use Rattle.std.specs.Ordering.{nat_cmp}
use Rattle.std.specs.BTreeSet.{contains}
use Rattle.comdat_core.proofs.keeping.kept_members.Given as goal

abbrev pub invariant-loop-seg : goal.invariant-loop-seg
invariant-loop-seg l = l.kept ≡ filter (λ i. not (contains nat_cmp l.gone i)) (take l.seg-index l.members)
