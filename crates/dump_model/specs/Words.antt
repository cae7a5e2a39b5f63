-- Words, and what they tell.
use Rattle.std.specs.Prelude.{◌≡◌, ℕ, ◌<◌, ◌==◌, Bool, true, false, not, ◌&&◌, List, [], ◌∷◌, ◌++◌, Option, Some, None}
use Rattle.std.specs.List.{list_all}
use Rattle.lx_types.specs.Escaped.{hex_digit, hex_byte}

abbrev pub is_in_word : ℕ → Bool
is_in_word b = not (b == 0x20) && not (b == 0x0A)

-- neither a blank nor the end of a line stands in it
abbrev pub no_break : List ℕ → Bool
no_break bytes = list_all is_in_word bytes

abbrev pub IsWord : List ℕ → Type 0
IsWord word = no_break word ≡ true

-- what stands after a word
abbrev pub IsAfter : ℕ → Type 0
IsAfter b = is_in_word b ≡ false

-- ---- the values that words tell

-- a word is the text of a value, or of none
abbrev pub Tells : {A : Type 0} → (A → List ℕ) → (A → Type 0) → Option A → List ℕ → Type 0
Tells text InRange (Some a) word = InRange a × (word ≡ text a)
Tells text InRange None word = (a : _) → InRange a → word ≡ text a → ⊥

-- the text of a value begins with a word
abbrev pub Begins : {A : Type 0} → (A → List ℕ) → (A → Type 0) → List ℕ → Type 0
Begins {A} text InRange word = (a : A) × (rest : List ℕ) × InRange a × (text a ≡ word ++ rest)

-- ---- hexadecimal digits

-- a byte is a hexadecimal digit
abbrev pub IsDigit : Option ℕ → ℕ → Type 0
IsDigit (Some d) byte = (d < 16) × (byte ≡ hex_digit d)
IsDigit None byte = (d : ℕ) → d < 16 → byte ≡ hex_digit d → ⊥

abbrev pub IsHex : ℕ → Type 0
IsHex byte = (d : ℕ) × (d < 16) × (byte ≡ hex_digit d)

-- two bytes are the digits of a byte
abbrev pub IsPairOf : Option ℕ → ℕ → ℕ → Type 0
IsPairOf (Some b) high low = (b < 256) × (high ∷ low ∷ [] ≡ hex_byte b)
IsPairOf None high low = (n : ℕ) → high ∷ low ∷ [] ≡ hex_byte n → ⊥
