use Rattle.std.proofs.Common.{◌≡◌, ℕ, take}
use Rattle.link_fix.specs.Images.{byte_of}
use Rattle.link_fix.specs.Pieces.{of_pieces}
use Rattle.link_fix.proofs.standing.data_of.Given as goal

abbrev pub invariant-loop-piece : goal.invariant-loop-piece
invariant-loop-piece l = (seg : ℕ) (x : ℕ) → byte_of l.«data» seg x ≡ of_pieces (take l.piece-index l.pieces) seg x
