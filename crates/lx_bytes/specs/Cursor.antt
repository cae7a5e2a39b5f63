-- A cursor over bytes, and what a read does with it.
use Rattle.std.specs.Prelude.{◌≡◌, ℕ, ◌+◌, ◌<◌, ◌≤◌, List, length, take, drop, Result, Ok, Err}
use Rattle.lx_bytes.specs.declared.cursor.Short.{Short}

-- where the cursor stands, as the count of the bytes before it, and the bytes that are left
pub record Cursor : Type 0 where
  pub at : ℕ
  pub left : List ℕ

-- the cursor n bytes further on
abbrev pub advance : ℕ → Cursor → Cursor
advance n c = record { at = c.at + n; left = drop n c.left }

-- A read of n bytes gives a value of the next n bytes and moves on past them, where as many are left.
-- Where fewer are left, it is Short at the cursor, which stays.
abbrev pub Reads : {X : Type 0} → ℕ → (List ℕ → X → Type 0) → Cursor → Result X Short → Cursor → Type 0
Reads n value old (Ok x) new = (n ≤ length old.left) × value (take n old.left) x × (new ≡ advance n old)
Reads n value old (Err short) new = (length old.left < n) × (short.at ≡ old.at) × (new ≡ old)
