-- How the bytes of an object are printed: sixteen on a line, in upper-case hexadecimal.
use Rattle.std.specs.Prelude.{ℕ, ◌+◌, ◌*◌, ◌/◌, List, [], ◌∷◌, ◌++◌, length, take, drop}
use Rattle.std.specs.List.{flat_map, range_with_len}
use Rattle.lx_types.specs.Escaped.{hex_byte, hex_address}

-- A blank and the two digits of a byte.
abbrev pub spaced : ℕ → List ℕ
spaced byte = 32 ∷ hex_byte byte

-- `AAAAAAAA: b b b` and a line feed.
abbrev pub line : ℕ → List ℕ → List ℕ
line at bytes = hex_address at ++ 58 ∷ flat_map spaced bytes ++ 10 ∷ []

-- The line of the sixteen bytes from place 16 k on, or of those that there are.
abbrev pub line_of : ℕ → List ℕ → ℕ → List ℕ
line_of base bytes k = line (base + 16 * k) (take 16 (drop (16 * k) bytes))

-- The bytes of an object at this base.
abbrev pub image_text : ℕ → List ℕ → List ℕ
image_text base bytes = flat_map (line_of base bytes) (range_with_len 0 ((length bytes + 15) / 16))
