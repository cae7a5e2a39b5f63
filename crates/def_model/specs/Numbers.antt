-- Numbers, in decimal digits or in hexadecimal ones after 0x.
use Rattle.std.specs.Prelude.{ℕ, ◌+◌, ◌*◌, ◌-◌, Bool, ◌&&◌, nat_lt, nat_le, List, length, drop, codes, nat_eq, Option, Some, None, if◌then◌else◌, fold}
use Rattle.std.specs.List.{list_all, starts_with}

-- What a digit counts, letters in either case; 36 for another byte.
abbrev pub digit_of : ℕ → ℕ
digit_of byte =
    if nat_le 48 byte && nat_le byte 57 then byte - 48
    else if nat_le 97 byte && nat_le byte 122 then byte - 87
    else if nat_le 65 byte && nat_le byte 90 then byte - 55
    else 36

abbrev pub are_digits : ℕ → List ℕ → Bool
are_digits base digits = list_all (λ d. nat_lt (digit_of d) base) digits

-- The value of digits, the highest first.
abbrev pub value_from : ℕ → ℕ → List ℕ → ℕ
value_from base start digits = fold (λ value d. value * base + digit_of d) start digits

-- The value where it is below 2^32.
abbrev pub value_of : ℕ → List ℕ → Option ℕ
value_of base digits = let value = value_from base 0 digits in if nat_lt value 4294967296 then Some value else None

-- What a run that begins with a digit spells: None where it is no number, and Some None where its value
-- is 2^32 or more.
abbrev pub number_of : List ℕ → Option (Option ℕ)
number_of run =
    if are_digits 10 run then Some (value_of 10 run)
    else if starts_with nat_eq run (codes "0x") && nat_lt 2 (length run) && are_digits 16 (drop 2 run) then Some (value_of 16 (drop 2 run))
    else None
