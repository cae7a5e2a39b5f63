use Rattle.std.proofs.Common.{◌+◌, ◌*◌, drop, refl, sym, ◌∙◌, ap, arith}
use Rattle.session_read.specs.Digits.{radix}
use Rattle.session_read.proofs.NumberLaws.{small-stray, small-more, small-over}
use Rattle.session_read.proofs.numbers.Base.number.Goals as goal

pub returns-in_err-digit : goal.returns-in_err-digit
returns-in_err-digit c =
    c.from_residual.ensures
    ∙ sym (small-stray c.args.self c.loop-byte.value c.args.digits.now c.loop-byte.byte-index _ (omega arith) refl c.in_err-digit.ensures.value)
    ∙ c.loop-byte.invariant.0

pub returns-then-value-from : goal.returns-then-value-from
returns-then-value-from c =
    let more = small-more c.args.self c.loop-byte.value c.args.digits.now c.loop-byte.byte-index _ c.in_ok-digit.field-0 (omega arith) refl c.in_ok-digit.ensures.value in
    let value = ap (λ base. c.loop-byte.value * base) c.radix.ensures.value in
    sym (small-over c.args.self (c.loop-byte.value * radix c.args.self + c.in_ok-digit.field-0) (drop (c.loop-byte.byte-index + 1) c.args.digits.now)
    (omega (arith, value, c.from.ensures, c.from-in-loop-byte.ensures, c.if-value-from.true)))
    ∙ sym more ∙ c.loop-byte.invariant.0
