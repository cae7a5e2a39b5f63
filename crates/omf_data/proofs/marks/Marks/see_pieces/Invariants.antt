use Rattle.omf_data.specs.Marks.{HavePieces}
use Rattle.std.proofs.Common.{length, ◌-◌, ◌≡◌}
use Rattle.omf_data.proofs.marks.Marks.see_pieces.Given as goal

abbrev pub invariant-pieces : goal.invariant-pieces
invariant-pieces l = record {
  have : HavePieces l.self l.pieces;
  same : l.self ≡ record l.fn.self { pieces = l.self.pieces; bytes = l.self.bytes };
}

abbrev pub decreases-pieces : goal.decreases-pieces
decreases-pieces l = length l.pieces - l.self.pieces
