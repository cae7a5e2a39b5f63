use Rattle.std.proofs.Common.{map}
use Rattle.std.specs.Option.{option_map}
use Rattle.map_core.specs.Shown.{by_address}
use Rattle.map_core.specs.Places.{placed_in}
use Rattle.map_core.proofs.Loops.{taken-pushed}
use Rattle.map_core.proofs.publics.add_placed.Goals as goal

pub loop-public-preserved : goal.loop-public-preserved
loop-public-preserved c =
    taken-pushed (placed_in c.args.lay.now c.args.by) c.args.publics.now c.loop-public.public-index c.public-item.result (option_map by_address c.placed.result)
    (map by_address c.args.found.now.items) (map by_address c.loop-public.found.items) (map by_address c.keep_place.new.found.items)
    c.loop-public-test.true c.public-item.is c.placed.ensures c.loop-public.invariant c.in_ok-keep_place.ensures
