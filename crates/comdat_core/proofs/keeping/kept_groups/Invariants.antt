use Rattle.std.proofs.Common.{◌≡◌, map, take}
use Rattle.std.specs.Ordering.{nat_cmp}
use Rattle.std.specs.BTreeSet.{contains}
use Rattle.link_model.specs.Kept.{group_without}
use Rattle.comdat_core.proofs.keeping.kept_groups.Given as goal

abbrev pub invariant-loop-group : goal.invariant-loop-group
invariant-loop-group l = l.kept ≡ map (group_without (contains nat_cmp l.gone)) (take l.group-index l.groups)
