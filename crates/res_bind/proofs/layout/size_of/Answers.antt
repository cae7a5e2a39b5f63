use Rattle.std.proofs.Common.{arith}
use Rattle.res_model.specs.Placed.{object_size}
use Rattle.res_bind.proofs.Sizes.{turn_below}
use Rattle.res_bind.proofs.layout.size_of.Goals as goal

pub returns-in-None : goal.returns-in-None
returns-in-None c =
    let below = turn_below c.args.items.now c.loop-item.item-index c.loop-item.end c.item-item.result (object_size c.args.items.now) c.loop-item-test.true c.item-item.is c.loop-item.invariant.size in
    omega (arith, below, c.in-None.ensures)
