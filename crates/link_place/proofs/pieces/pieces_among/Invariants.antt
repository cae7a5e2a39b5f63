use Rattle.std.proofs.Common.{◌≡◌, map, take}
use Rattle.std.specs.List.{flat_map, enumerate_from}
use Rattle.link_fix.specs.Shown.{piece_shown}
use Rattle.link_place.specs.PlacedData.{placed_in}
use Rattle.link_place.proofs.pieces.pieces_among.Given as goal

abbrev pub invariant-loop-index : goal.invariant-loop-index
invariant-loop-index l = map piece_shown l.found.items ≡ flat_map (λ q. placed_in l.places q.0 q.1) (enumerate_from 1 (map (λ m. m.now) (take l.index l.modules)))
