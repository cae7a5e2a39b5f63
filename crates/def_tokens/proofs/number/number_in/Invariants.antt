use Rattle.std.proofs.Common.{◌≡◌, ◌≤◌, ◌^◌, take, true, min}
use Rattle.def_model.specs.Numbers.{are_digits, value_from}
use Rattle.def_tokens.proofs.number.number_in.Given as goal

-- The bytes so far are digits, and the value is theirs, or 2^32 where theirs is higher.
abbrev pub invariant-loop-byte : goal.invariant-loop-byte
invariant-loop-byte l =
    (are_digits l.base (take l.byte-index l.bytes) ≡ true)
    × (l.value ≡ min (value_from l.base 0 (take l.byte-index l.bytes)) (2 ^ 32))
    × (l.value ≤ 2 ^ 32)
