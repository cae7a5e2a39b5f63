-- The bytes of data, from its pieces: at each place that of the last piece that covers it, else 0.
use Rattle.std.specs.Prelude.{ℕ, ◌-◌, List, reverse, slice_index, find}
use Rattle.std.specs.Option.{option_map_or}
use Rattle.obj_types.specs.declared.object.Piece.{Piece}
use Rattle.link_model.specs.Data.{covers}
use Rattle.link_model.specs.Mean.{PlacedPiece as Placed, piece_covers}

-- Of the pieces of one module, by segment.
abbrev pub of_pieces : List Piece → ℕ → ℕ → ℕ
of_pieces pieces seg x = option_map_or (λ p. slice_index p.bytes (x - p.offset)) (find (covers seg x) (reverse pieces)) 0

-- Of pieces at their places in objects.
abbrev pub of_placed : List Placed → ℕ → ℕ → ℕ
of_placed pieces object x =
    option_map_or (λ p. slice_index p.bytes (x - p.offset)) (find (piece_covers object x) (reverse pieces)) 0
