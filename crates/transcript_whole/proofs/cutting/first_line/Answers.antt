use Rattle.std.proofs.Common.{arith}
use Rattle.transcript_whole.proofs.LineCuts.{cut_at, no_end_at}
use Rattle.transcript_whole.proofs.cutting.first_line.Goals as goal

pub returns-in-Some : goal.returns-in-Some
returns-in-Some c = cut_at c.args.bytes.now c.in-Some.at c.in-Some.ensures.0.high c.in-Some.ensures.1 (λ j h. c.in-Some.ensures.0.before j (omega arith) h)

pub returns-in-None : goal.returns-in-None
returns-in-None c = no_end_at c.args.bytes.now (λ j h. c.in-None.ensures j (omega arith) h)
