use Rattle.std.proofs.Common.{◌≡◌, take}
use Rattle.omf_comdat.specs.Finishing.{ends_for}
use Rattle.omf_comdat.proofs.finish.ends_of.Given as goal

abbrev pub invariant-loop-piece : goal.invariant-loop-piece
invariant-loop-piece l = l.ends.items ≡ ends_for (take l.piece-index l.pieces) l.count
