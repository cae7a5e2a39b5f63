use Rattle.std.proofs.Common.{[], ◌++◌, List, map, ap, ◌∙◌}
use Rattle.std.specs.List.{filter_map}
use Rattle.obj_types.specs.declared.symbol.Pub.{Pub}
use Rattle.map_core.specs.Shown.{by_address}
use Rattle.map_core.specs.Places.{placed_in, placed_in_module}
use Rattle.map_core.proofs.Loops.{lent-pushed}
use Rattle.map_core.proofs.publics.all_placed.Goals as goal

pub loop-place-preserved : goal.loop-place-preserved
loop-place-preserved c =
    lent-pushed (placed_in_module c.args.lay.now) 1 c.in_ok-count.field-0 c.args.modules.now c.loop-place.place c.index-modules-place.result []
    (map by_address c.loop-place.found.items) (map by_address c.add_placed.new.found.items) c.loop-place-test.true c.index-modules-place.is c.in_ok-count.ensures
    c.loop-place.invariant
    (c.in_ok-add_placed.ensures
    ∙ ap (λ (pubs : List Pub). map by_address c.loop-place.found.items ++ filter_map (placed_in c.args.lay.now c.in_ok-count.field-0) pubs) c.as_slice.ensures)
