use Rattle.std.proofs.Common.{◌≡◌, ◌+◌, drop}
use Rattle.std.specs.List.{prefix_len}
use Rattle.omf_write.specs.ObjectBytes.{lies_on}
use Rattle.omf_write.proofs.pieces.count_on.Given as goal

abbrev pub invariant-loop-fix : goal.invariant-loop-fix
invariant-loop-fix l =
    (l.count ≡ l.fix-index) × (l.count + prefix_len (lies_on l.piece) (drop l.fix-index l.fixes) ≡ prefix_len (lies_on l.piece) l.fixes)
