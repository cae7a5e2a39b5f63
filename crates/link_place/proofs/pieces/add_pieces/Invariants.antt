use Rattle.std.proofs.Common.{◌≡◌, ◌++◌, map, take}
use Rattle.std.specs.List.{filter_map}
use Rattle.link_fix.specs.Shown.{piece_shown}
use Rattle.link_place.specs.PlacedData.{placed_at}
use Rattle.link_place.proofs.pieces.add_pieces.Given as goal

abbrev pub invariant-loop-piece : goal.invariant-loop-piece
invariant-loop-piece l = map piece_shown l.found.items ≡ map piece_shown l.initial.found.items ++ filter_map (placed_at l.places l.«module») (take l.piece-index l.pieces)
