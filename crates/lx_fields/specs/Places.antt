-- Numbers at places of a file.
use Rattle.std.specs.Prelude.{◌≡◌, ℕ, ◌<◌, ◌≤◌, ◌+◌, List, Option, Some, None, length}
use Rattle.lx_model.specs.Reading.{number_at}
use Rattle.lx_fields.specs.declared.places.Width.{Width}
use Rattle.lx_fields.specs.declared.places.Width.TheVariants.{Byte, Word, Doubleword}

-- how many bytes a number has
abbrev pub bytes_in : Width → ℕ
bytes_in Byte = 1
bytes_in Word = 2
bytes_in Doubleword = 4

-- the number in the n bytes at a place, or none where they pass the end
abbrev pub IsNumberAt : Option ℕ → ℕ → List ℕ → ℕ → Type 0
IsNumberAt (Some x) n bytes at = (at + n ≤ length bytes) × (x ≡ number_at n bytes at)
IsNumberAt None n bytes at = length bytes < at + n
