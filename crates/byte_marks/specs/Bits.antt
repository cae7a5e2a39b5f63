-- Bits of a word and of a page of words.
use Rattle.std.specs.Prelude.{◌≡◌, ℕ, ◌/◌, ◌%◌, ◌<◌, ◌≤◌, Bool, true, ◌&&◌, List, slice_index, nat_le, nat_lt, ◌==◌}
use Rattle.std.specs.Int.{bit_at}

-- The bit of a word.
abbrev pub is_bit : ℕ → ℕ → Bool
is_bit word i = bit_at word i == 1

-- The bit of a page, whose words have 64 bits each.
abbrev pub is_set : List ℕ → ℕ → Bool
is_set words x = is_bit (slice_index words (x / 64)) (x % 64)

-- A number is one of those from one up to another.
abbrev pub is_from : ℕ → ℕ → ℕ → Bool
is_from from past x = nat_le from x && nat_lt x past

-- One of the numbers from one up to another passes a test.
pub record HasBit (test : ℕ → Bool) (from past : ℕ) : Type 0 where
  pub place : ℕ
  pub least : from ≤ place
  pub below : place < past
  pub passes : test place ≡ true
