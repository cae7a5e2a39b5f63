use Rattle.std.proofs.Common.{get_or, arith}
use Rattle.std.proofs.lemmas.Bool.{eqb-true}
use Rattle.session_read.proofs.LineLaws.{lines_cut_at, lines_last_at}
use Rattle.session_read.proofs.lines.first_line.Goals as goal

pub returns-in-Some-clause-lines : goal.returns-in-Some-clause-lines
returns-in-Some-clause-lines c =
    lines_cut_at c.args.bytes.now c.in-Some.at c.without_cr.result.now c.in-Some.ensures.0.high
    (eqb-true (get_or c.args.bytes.now c.in-Some.at 0) 10 c.in-Some.ensures.1) (λ j h. c.in-Some.ensures.0.before j (omega arith) h) c.without_cr.ensures

pub returns-in-None-clause-lines : goal.returns-in-None-clause-lines
returns-in-None-clause-lines c = lines_last_at c.args.bytes.now c.requires (λ j h. c.in-None.ensures j (omega arith) h)
