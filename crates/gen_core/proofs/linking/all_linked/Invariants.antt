use Rattle.std.specs.List.{All}
use Rattle.lx_model.specs.Module.{IsRead}
use Rattle.gen_core.specs.Linking.{HasLinked}
use Rattle.gen_core.proofs.linking.all_linked.Given as goal

abbrev pub invariant-loop-before : goal.invariant-loop-before
invariant-loop-before l = HasLinked l.before l.linking × All IsRead l.linking.«modules».items
