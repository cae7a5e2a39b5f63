use Rattle.std.proofs.Common.{arith, sym, ◌∙◌}
use Rattle.std.proofs.lemmas.Fmt.{decimal_injective}
use Rattle.transcript_read.proofs.fields.script_of.Goals as goal

pub returns-then-n-lt1 : goal.returns-then-n-lt1
returns-then-n-lt1 c a range is =
    let same = decimal_injective a c.in_ok-n.n (omega (arith, range.1)) (omega (arith, c.in_ok-n.ensures.0)) (sym is ∙ c.in_ok-n.ensures.1) in
    omega (arith, range.0, same)

pub returns-then-n-gt-MAX_PROCESSES : goal.returns-then-n-gt-MAX_PROCESSES
returns-then-n-gt-MAX_PROCESSES c a range is =
    let same = decimal_injective a c.in_ok-n.n (omega (arith, range.1)) (omega (arith, c.in_ok-n.ensures.0)) (sym is ∙ c.in_ok-n.ensures.1) in
    omega (arith, range.1, same)
