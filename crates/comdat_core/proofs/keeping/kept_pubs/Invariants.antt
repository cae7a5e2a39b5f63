use Rattle.std.proofs.Common.{◌≡◌, filter, not, take}
use Rattle.std.specs.Ordering.{nat_cmp}
use Rattle.std.specs.BTreeSet.{contains}
use Rattle.link_model.specs.Kept.{is_place_in}
use Rattle.comdat_core.proofs.keeping.kept_pubs.Given as goal

abbrev pub invariant-loop-public : goal.invariant-loop-public
invariant-loop-public l = l.kept ≡ filter (λ p. not (is_place_in (contains nat_cmp l.gone) p.place)) (take l.public-index l.publics)
