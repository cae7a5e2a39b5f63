-- How far a record goes, by its length word alone.
use Rattle.std.specs.Prelude.{◌≡◌, ℕ, ◌+◌, List, length, take, drop}
use Rattle.lx_bytes.specs.LittleEndian.{little}

-- the length word after the type byte
abbrev pub length_word : List ℕ → ℕ
length_word bytes = little (take 2 (drop 1 bytes))

-- The bytes are as many as their length word says.
abbrev pub IsDelimited : List ℕ → Type 0
IsDelimited bytes = length bytes ≡ 3 + length_word bytes
