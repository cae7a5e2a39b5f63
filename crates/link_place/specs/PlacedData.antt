-- Data at its place, where these are a link's places.
use Rattle.std.specs.Prelude.{ℕ, ◌+◌, List, Option}
use Rattle.std.specs.Option.{option_map}
use Rattle.std.specs.List.{filter_map}
use Rattle.obj_types.specs.declared.object.Piece.{Piece}
use Rattle.obj_types.specs.declared.object.ObjModule.{ObjModule}
use Rattle.link_model.specs.Mean.{PlacedPiece}
use Rattle.link_types.specs.declared.places.Places.{Places}
use Rattle.link_types.specs.Places.{spot_in}

abbrev pub placed_at : Places → ℕ → Piece → Option PlacedPiece
placed_at p n piece =
    option_map (λ q. record { object = q.0; offset = q.1 + piece.offset; bytes = piece.bytes }) (spot_in p n piece.seg)

abbrev pub placed_in : Places → ℕ → ObjModule → List PlacedPiece
placed_in p n m = filter_map (placed_at p n) m.pieces
