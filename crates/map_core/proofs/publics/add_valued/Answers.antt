use Rattle.std.proofs.Common.{map}
use Rattle.std.specs.Option.{option_map}
use Rattle.map_core.specs.Shown.{by_name}
use Rattle.map_core.specs.Places.{valued_in}
use Rattle.map_core.proofs.Loops.{taken-pushed}
use Rattle.map_core.proofs.publics.add_valued.Goals as goal

pub loop-public-preserved : goal.loop-public-preserved
loop-public-preserved c =
    taken-pushed (valued_in c.args.lay.now c.args.by) c.args.publics.now c.loop-public.public-index c.public-item.result (option_map by_name c.valued.result)
    (map by_name c.args.found.now.items) (map by_name c.loop-public.found.items) (map by_name c.keep_value.new.found.items)
    c.loop-public-test.true c.public-item.is c.valued.ensures c.loop-public.invariant c.in_ok-keep_value.ensures
