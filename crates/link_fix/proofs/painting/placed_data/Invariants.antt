use Rattle.std.proofs.Common.{◌≡◌, ℕ, map, take}
use Rattle.link_fix.specs.Images.{byte_of}
use Rattle.link_fix.specs.Pieces.{of_placed}
use Rattle.link_fix.specs.Shown.{piece_shown}
use Rattle.link_fix.proofs.painting.placed_data.Given as goal

abbrev pub invariant-loop-piece : goal.invariant-loop-piece
invariant-loop-piece l = (n : ℕ) (x : ℕ) → byte_of l.rows n x ≡ of_placed (map piece_shown (take l.piece-index l.pieces)) n x
