-- How numbers and names are told, in refusals and in transcripts: hexadecimal digits in upper case; of a name bytes that are no
-- visible ASCII, and `%`, as `%` and two of them.
use Rattle.std.specs.Prelude.{ℕ, ◌+◌, ◌/◌, ◌%◌, ◌==◌, ◌&&◌, not, Bool, List, [], ◌∷◌, ◌++◌, nat_le, nat_lt, if◌then◌else◌}
use Rattle.std.specs.List.{flat_map}

-- a hexadecimal digit, in upper case
abbrev pub hex_digit : ℕ → ℕ
hex_digit d = if nat_lt d 10 then 0x30 + d else 0x37 + d

-- a byte as two digits
abbrev pub hex_byte : ℕ → List ℕ
hex_byte b = hex_digit (b / 16 % 16) ∷ hex_digit (b % 16) ∷ []

-- a number of 32 bits as eight
abbrev pub hex_address : ℕ → List ℕ
hex_address a = hex_byte (a / 0x100_0000) ++ hex_byte (a / 0x1_0000) ++ hex_byte (a / 0x100) ++ hex_byte a

-- from `!` to `~`, and not `%`
abbrev pub is_plain : ℕ → Bool
is_plain b = nat_le 0x21 b && nat_le b 0x7E && not (b == 0x25)

abbrev pub escaped_byte : ℕ → List ℕ
escaped_byte b = if is_plain b then b ∷ [] else 0x25 ∷ hex_byte b

abbrev pub escaped : List ℕ → List ℕ
escaped name = flat_map escaped_byte name
