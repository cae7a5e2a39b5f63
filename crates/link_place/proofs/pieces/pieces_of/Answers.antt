use Rattle.std.proofs.Common.{map}
use Rattle.link_fix.specs.Shown.{piece_shown}
use Rattle.link_place.proofs.PlacedPieces.{pieces-are}
use Rattle.link_place.proofs.pieces.pieces_of.Goals as goal

pub returns : goal.returns
returns c = λ l of are.
    pieces-are l c.args.places.now (map (λ m. m.now) c.args.modules.now) (map piece_shown c.in_ok-found.found.items) of are c.in_ok-found.ensures
