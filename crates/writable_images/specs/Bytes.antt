-- The bytes of a source, counted from the sixth byte before the page.
-- "32-bit Linear eXecutable Module Format": "Fixup Record Table", the field SRCOFF.
use Rattle.std.specs.Prelude.{ℕ, ◌+◌, ◌-◌, ◌&&◌, Bool, nat_le, nat_lt, ℤ, pos, negsuc}

-- A source begins up to 5 bytes before its page, and has up to 6 bytes.
abbrev pub first_byte : ℤ → ℕ
first_byte (pos n) = n + 5
first_byte (negsuc n) = 4 - n

abbrev pub is_in : ℕ → ℕ → ℕ → Bool
is_in first size k = nat_le first k && nat_lt k (first + size)
