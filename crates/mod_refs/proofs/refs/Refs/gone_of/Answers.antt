-- One module more, of which the loop knows that the process does not reach it.
use Rattle.std.proofs.Common.{arith}
use Rattle.std.proofs.lemmas.Grind.{common_steps}
use Rattle.mod_refs.proofs.refs.Refs.gone_of.Goals as goal

pub loop-k-preserved : goal.loop-k-preserved
loop-k-preserved c = λ lib e p are none.
    let here = c.reached_beside.ensures lib e p are (none c.loop-k.k-index 0 c.loop-k-test.true) in
    let so_far = c.loop-k.invariant lib e p are none in
    grind (arith, common_steps, here, so_far)

pub returns : goal.returns
returns c = λ lib e p are none. (let all = c.loop-k.invariant lib e p are none in grind (arith, common_steps, all))
