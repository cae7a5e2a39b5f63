-- Digits to one of the two bases.
use Rattle.std.specs.Prelude.{ℕ, ◌^◌, List, Option, option_and_then}
use Rattle.session_model.specs.Lines.{hex_value, decimal_value, number_to, below}
use Rattle.session_read.specs.declared.numbers.Base.{Base}
use Rattle.session_read.specs.declared.numbers.Base.TheVariants.{Ten, Sixteen}

abbrev pub radix : Base → ℕ
radix Ten = 10
radix Sixteen = 16

abbrev pub digit_of : Base → ℕ → Option ℕ
digit_of Ten = decimal_value
digit_of Sixteen = hex_value

-- the number of digits, where it is below 2 ^ 32
abbrev pub small_number : Base → List ℕ → Option ℕ
small_number base digits = option_and_then (below (2 ^ 32)) (number_to (radix base) (digit_of base) digits)
