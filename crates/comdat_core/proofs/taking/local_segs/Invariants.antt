use Rattle.std.proofs.Common.{◌≡◌, take, ℕ}
use Rattle.std.specs.Prelude.{◌&&◌}
use Rattle.std.specs.List.{list_any}
use Rattle.std.specs.Ordering.{nat_cmp}
use Rattle.std.specs.BTreeSet.{contains}
use Rattle.obj_types.specs.Whole.{is_in_seg}
use Rattle.comdat_core.proofs.taking.local_segs.Given as goal

abbrev pub invariant-loop-public : goal.invariant-loop-public
invariant-loop-public l =
    (seg : ℕ) → contains nat_cmp l.segs seg ≡ list_any (λ p. p.local && is_in_seg seg p.place) (take l.public-index l.publics)
