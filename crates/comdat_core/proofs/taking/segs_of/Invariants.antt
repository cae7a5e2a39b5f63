use Rattle.std.proofs.Common.{◌≡◌, take, map, ℕ}
use Rattle.std.specs.Ordering.{nat_cmp}
use Rattle.std.specs.BTreeSet.{contains}
use Rattle.link_model.specs.Kept.{is_seg_of}
use Rattle.comdat_core.specs.Taking.{comdat_of}
use Rattle.comdat_core.proofs.taking.segs_of.Given as goal

abbrev pub invariant-loop-one : goal.invariant-loop-one
invariant-loop-one l = (seg : ℕ) → contains nat_cmp l.segs seg ≡ is_seg_of (map comdat_of (take l.one-index l.taken)) seg
