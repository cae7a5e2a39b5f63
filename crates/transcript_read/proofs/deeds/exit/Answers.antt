use Rattle.transcript_read.specs.Rows.{Any}
use Rattle.transcript_read.proofs.Chain.{no_more, one_more, tells}
use Rattle.transcript_read.proofs.deeds.exit.Goals as goal

pub returns : goal.returns
returns c =
    let v : Unit {0} = tt in
    tells (one_more v (λ _. tt) c.known.ensures
    (no_more c.ending.ensures))
    (Any) (λ x h. tt) (λ x h. (tt, tt))
