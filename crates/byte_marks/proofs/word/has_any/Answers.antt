use Rattle.std.proofs.Common.{◌<◌, ◌^◌, bit_and, sym, ap, ◌∙◌, arith, true≢false}
use Rattle.std.specs.Prelude.{not}
use Rattle.std.proofs.lemmas.Bool.{eq-eqb}
use Rattle.std.proofs.lemmas.Bool.Decides.{nat_tests}
use Rattle.byte_marks.proofs.Words.{common-bit, has-common}
use Rattle.byte_marks.proofs.word.has_any.Goals as goal

pub returns : goal.returns
returns c =
    let word : c.args.word < 2 ^ 64 = omega arith in (
      λ t. common-bit c.args.word c.ones.result c.args.from c.args.past word c.ones.ensures (λ none. true≢false (sym t ∙ ap not (eq-eqb (bit_and c.args.word c.ones.result) 0 none))),
      λ has. let some = has-common c.args.word c.ones.result c.args.from c.args.past c.ones.ensures has in grind (arith, nat_tests),
    )
