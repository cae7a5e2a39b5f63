use Rattle.std.proofs.Common.{◌≡◌, ◌-◌, length}
use Rattle.omf_model.specs.Finished as done
use Rattle.omf_comdat.proofs.Mapped.{mapped}
use Rattle.omf_comdat.proofs.finish.finish_pieces.Given as goal

abbrev pub invariant-pieces : goal.invariant-pieces
invariant-pieces l = l.all.items ≡ mapped (done.piece_for l.segs) l.next l.fn.pieces

abbrev pub decreases-pieces : goal.decreases-pieces
decreases-pieces l = length l.fn.pieces - l.next
