use Rattle.gen_core.proofs.MadeFiles.{HasMade}
use Rattle.gen_core.proofs.outputs.outputs.Given as goal

abbrev pub invariant-loop-before : goal.invariant-loop-before
invariant-loop-before l = HasMade l.prefix l.before l.outputs.items
