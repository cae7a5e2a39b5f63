use Rattle.std.proofs.Common.{sym, ◌∙◌, ap}
use Rattle.std.proofs.lemmas.List.{take_rest}
use Rattle.session_read.specs.declared.numbers.Base.TheVariants.{Sixteen}
use Rattle.session_read.specs.Digits.{small_number}
use Rattle.session_read.proofs.NumberLaws.{number-hex, number-decimal}
use Rattle.session_read.proofs.numbers.number_in.Goals as goal

pub returns-then-is_hex : goal.returns-then-is_hex
returns-then-is_hex c =
    c.number.ensures ∙ ap (small_number Sixteen) (take_rest c.args.word.now 2)
    ∙ sym (number-hex c.args.word.now (sym c.is_hex.ensures.value ∙ c.if-is_hex.true))

pub returns-else-is_hex : goal.returns-else-is_hex
returns-else-is_hex c = c.number-else-is_hex.ensures ∙ sym (number-decimal c.args.word.now (sym c.is_hex.ensures.value ∙ c.if-is_hex.false))
