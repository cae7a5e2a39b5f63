use Rattle.std.proofs.Common.{◌≡◌, filter, not, take}
use Rattle.std.specs.Ordering.{nat_cmp}
use Rattle.std.specs.BTreeSet.{contains}
use Rattle.comdat_core.proofs.keeping.kept_fixes.Given as goal

abbrev pub invariant-loop-fix : goal.invariant-loop-fix
invariant-loop-fix l = l.kept ≡ filter (λ x. not (contains nat_cmp l.gone x.seg)) (take l.fix-index l.fixes)
