use Rattle.std.proofs.Common.{arith, sym, ◌∙◌}
use Rattle.std.proofs.lemmas.Fmt.{decimal_injective}
use Rattle.transcript_read.proofs.fields.number_of.Goals as goal

pub returns-else-n-from : goal.returns-else-n-from
returns-else-n-from c a small is =
    let same = decimal_injective a c.in_ok-n.n (omega (arith, small)) c.in_ok-n.ensures.0 (sym is ∙ c.in_ok-n.ensures.1) in
    omega (arith, small, same)
