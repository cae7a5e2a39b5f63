-- One process that reaches it is enough, and where none of the sixteen does, none does.
use Rattle.std.proofs.Common.{sym, arith}
use Rattle.mod_refs.proofs.CountsOfAll.{none_reaches, some_reaches}
use Rattle.mod_refs.proofs.refs.Refs.resident.Goals as goal

pub returns-then-reaches : goal.returns-then-reaches
returns-then-reaches c = λ lib e are.
    sym (some_reaches lib e c.args.m c.loop-pid.pid c.loop-pid.invariant.least (omega (arith, c.loop-pid-test.true)) (sym (c.if-reaches.ensures lib e are)))

pub returns : goal.returns
returns c = λ lib e are.
    sym (none_reaches lib e c.args.m (λ q least most. c.loop-pid.invariant.none lib e are q least (omega (arith, c.loop-pid-test.false, most))))
