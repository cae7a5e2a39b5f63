-- The words of a line: what single blanks separate, one at least.
use Rattle.std.specs.Prelude.{◌≡◌, ℕ, ◌==◌, not, Bool, true, cond, List, [], ◌∷◌, Option, Some, None, option_map}
use Rattle.std.specs.List.{list_all}
use Rattle.transcript_read.specs.declared.cursor.Words.{Words}

abbrev pub Row : Type 0
Row = List (List ℕ)

-- a byte in front of the first word
abbrev pub onto : ℕ → Row → Row
onto b [] = (b ∷ []) ∷ []
onto b (w ∷ ws) = (b ∷ w) ∷ ws

abbrev pub split : List ℕ → Row
split [] = [] ∷ []
split (b ∷ bytes) = cond (b == 0x20) ([] ∷ split bytes) (onto b (split bytes))

abbrev pub is_inside : ℕ → Bool
is_inside b = not (b == 0x20)

abbrev pub HasNoBlank : List ℕ → Type 0
HasNoBlank word = list_all is_inside word ≡ true

-- ---- what a reader of words has: the words that are left, or none where it has stopped

abbrev pub split_left : Option (List ℕ) → Row
split_left None = []
split_left (Some text) = split text

abbrev pub left_of : Words → Option Row
left_of w = cond w.stopped None (Some (split_left (option_map (λ text. text.now) w.left)))
