use Rattle.std.proofs.Common.{map}
use Rattle.link_fix.specs.Shown.{piece_shown}
use Rattle.link_place.specs.PlacedData.{placed_at}
use Rattle.link_place.proofs.Growing.{picked-more}
use Rattle.link_place.proofs.pieces.add_pieces.Goals as goal

pub loop-piece-preserved : goal.loop-piece-preserved
loop-piece-preserved c =
    picked-more (placed_at c.args.places.now c.args.«module») (map piece_shown c.args.found.now.items) (map piece_shown c.loop-piece.found.items) (map piece_shown c.add_piece.new.found.items) c.args.pieces.now c.loop-piece.piece-index c.piece-item.result c.loop-piece-test.true
    c.piece-item.is c.loop-piece.invariant c.in_ok-add_piece.ensures
