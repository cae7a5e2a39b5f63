use Rattle.std.proofs.Common.{◌∙◌, ◌++◌, ap, map, filter_map, List}
use Rattle.obj_types.specs.declared.object.Piece.{Piece}
use Rattle.link_fix.specs.Shown.{piece_shown}
use Rattle.link_place.specs.PlacedData.{placed_at, placed_in}
use Rattle.link_place.proofs.Growing.{module-more}
use Rattle.link_place.proofs.pieces.pieces_among.Goals as goal

pub loop-index-preserved : goal.loop-index-preserved
loop-index-preserved c =
    module-more (placed_in c.args.places.now) c.args.modules.now c.loop-index.index c.in_ok-count.field-0 c.index-modules-index.result (map piece_shown c.loop-index.found.items) (map piece_shown c.add_pieces.new.found.items) c.loop-index-test.true
    c.index-modules-index.is c.in_ok-count.ensures c.loop-index.invariant
    (c.in_ok-add_pieces.ensures ∙ ap (λ (ps : List Piece). map piece_shown c.loop-index.found.items ++ filter_map (placed_at c.args.places.now c.in_ok-count.field-0) ps) c.as_slice.ensures)
