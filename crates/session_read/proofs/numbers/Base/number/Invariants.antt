use Rattle.std.proofs.Common.{◌≡◌, ◌<◌, ◌^◌, drop}
use Rattle.session_read.specs.Digits.{small_number}
use Rattle.session_read.proofs.NumberLaws.{small_onto}
use Rattle.session_read.proofs.numbers.Base.number.Given as goal

-- The digits that are left make of the value so far what all make.
abbrev pub invariant-loop-byte : goal.invariant-loop-byte
invariant-loop-byte l = (small_onto l.self l.value (drop l.byte-index l.digits) ≡ small_number l.self l.digits) × (l.value < 2 ^ 32)
