use Rattle.std.proofs.Common.{◌≡◌, ◌++◌, ◌+◌, drop, map}
use Rattle.std.specs.List.{enumerate_from}
use Rattle.std.specs.Ordering.{nat_cmp}
use Rattle.std.specs.BTreeSet.{contains}
use Rattle.link_model.specs.Kept.{seg_without}
use Rattle.comdat_core.proofs.keeping.kept_segs.Given as goal

abbrev pub invariant-loop-index : goal.invariant-loop-index
invariant-loop-index l =
    l.kept ++ map (λ q. seg_without (contains nat_cmp l.gone) q.0 q.1) (enumerate_from (l.index + 1) (drop l.index l.segs))
    ≡ map (λ q. seg_without (contains nat_cmp l.gone) q.0 q.1) (enumerate_from 1 l.segs)
