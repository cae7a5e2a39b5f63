use Rattle.std.proofs.Common.{get_or, arith}
use Rattle.std.proofs.lemmas.Bool.{eqb-true, eq-eqb}
use Rattle.transcript_read.proofs.Splits.{split_at_blank, split_last, taken_inside, all_inside}
use Rattle.transcript_read.proofs.cursor.first_word.Goals as goal

pub returns-in-Some-clause-words : goal.returns-in-Some-clause-words
returns-in-Some-clause-words c =
    split_at_blank c.args.text.now c.in-Some.at c.in-Some.ensures.0.high (eqb-true (get_or c.args.text.now c.in-Some.at 0) 32 c.in-Some.ensures.1)
    (λ j h. c.in-Some.ensures.0.before j (omega arith) h)

pub returns-in-Some-clause-inside : goal.returns-in-Some-clause-inside
returns-in-Some-clause-inside c =
    taken_inside c.args.text.now c.in-Some.at (λ j h e. c.in-Some.ensures.0.before j (omega arith) h (eq-eqb (get_or c.args.text.now j 0) 32 e))

pub returns-in-None-clause-words : goal.returns-in-None-clause-words
returns-in-None-clause-words c =
    split_last c.args.text.now (all_inside c.args.text.now (λ j h e. c.in-None.ensures j (omega arith) h (eq-eqb (get_or c.args.text.now j 0) 32 e)))

pub returns-in-None-clause-inside : goal.returns-in-None-clause-inside
returns-in-None-clause-inside c = all_inside c.args.text.now (λ j h e. c.in-None.ensures j (omega arith) h (eq-eqb (get_or c.args.text.now j 0) 32 e))
