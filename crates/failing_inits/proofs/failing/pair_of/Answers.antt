use Rattle.failing_inits.proofs.Pairs.{pair_is, no_pair}
use Rattle.failing_inits.proofs.failing.pair_of.Goals as goal

pub returns-in-Some-process_of : goal.returns-in-Some-process_of
returns-in-Some-process_of c = pair_is c.args.lib.now c.args.scripts.now c.args.line.now _ _ c.in-Some.ensures.number c.in-Some-process_of.ensures

pub returns-in-None : goal.returns-in-None
returns-in-None c = no_pair c.args.lib.now c.args.scripts.now c.args.line.now c.in-None.ensures.number
