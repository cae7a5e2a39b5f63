use Rattle.std.proofs.Common.{◌≡◌, filter, not, take}
use Rattle.std.specs.Ordering.{nat_cmp}
use Rattle.std.specs.BTreeSet.{contains}
use Rattle.comdat_core.proofs.keeping.kept_pieces.Given as goal

abbrev pub invariant-loop-piece : goal.invariant-loop-piece
invariant-loop-piece l = l.kept ≡ filter (λ x. not (contains nat_cmp l.gone x.seg)) (take l.piece-index l.pieces)
