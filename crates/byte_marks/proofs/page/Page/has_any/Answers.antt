use Rattle.std.proofs.Common.{◌+◌, ◌-◌, ◌*◌, ◌/◌, refl, sym, arith}
use Rattle.std.specs.Prelude.{slice_index}
use Rattle.byte_marks.specs.Bits.{is_bit, is_set}
use Rattle.byte_marks.proofs.Tests.{part-has, has-alike}
use Rattle.byte_marks.proofs.Words.{word-of_page}
use Rattle.byte_marks.proofs.page.Page.has_any.Goals as goal

pub returns-then-has_any : goal.returns-then-has_any
returns-then-has_any c =
    let words = c.args.self.now.words in
    let word = c.words.at / 64 in
    let first = word * 64 in (
      λ t.
          part-has (is_set words) first c.args.from c.args.past c.words.at c.min-end.result (omega arith) c.words.invariant.ahead (omega (arith, c.min-end.ensures))
          (has-alike (is_bit (slice_index words word)) (λ i. is_set words (first + i)) (c.words.at - first) (c.min-end.result - first) (λ i below. sym (word-of_page words word i (omega (arith, c.min-end.ensures, below)))) (c.has_any.ensures.0 c.if-has_any.true)),
      λ has. refl,
    )
