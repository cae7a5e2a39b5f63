-- Words that are taken: what is left after one, and which of some stands next.
use Rattle.std.specs.Prelude.{◌≡◌, ℕ, ◌+◌, ◌==◌, ◌<◌, ◌≤◌, Bool, true, false, not, ◌&&◌, ◌||◌, cond}
use Rattle.std.specs.Prelude.{List, [], ◌∷◌, ◌++◌, length, take, drop, get_or, Option, Some, None}
use Rattle.std.specs.List.{prefix_len, AllByRecursion}
use Rattle.dump_model.specs.Words.{is_in_word}
use Rattle.dump_read.specs.Taken.{is_front, same_bytes, is_begun, State, Reads, shut}

-- a word, and what stands after it
abbrev pub ended_by : {A : Type 0} → ℕ → (A → List ℕ) → A → List ℕ
ended_by after text a = text a ++ after ∷ []

-- the word that stands in front
abbrev pub front_word : List ℕ → List ℕ
front_word left = take (prefix_len is_in_word left) left

-- a reader that goes on, and one that stops
abbrev pub goes : ℕ → State → State
goes n s = record { left = drop n s.left; begun = false; stopped = false }

abbrev pub stops : Bool → State → State
stops begun s = record { left = s.left; begun = begun; stopped = true }

-- what is left after a word that stands in front, which may tell what is looked for, or begin it where the bytes end
abbrev pub settled : List ℕ → ℕ → Bool → Bool → State → State
settled word after told begins s =
    cond s.stopped s
    (cond (length word == length s.left) (stops (s.begun || begins) s)
    (cond (told && (get_or s.left (length word) 0 == after)) (goes (length word + 1) s) (stops s.begun s)))

-- what is left after a text that stands in front
abbrev pub taken : List ℕ → State → State
taken piece s = cond s.stopped s (cond (is_front piece s.left) (goes (length piece) s) (stops (s.begun || is_front s.left piece) s))

-- a text is one piece
abbrev pub is_piece : List ℕ → Bool
is_piece [] = false
is_piece (b ∷ []) = not (is_in_word b)
is_piece (b ∷ c ∷ bytes) = is_in_word b && is_piece (c ∷ bytes)

-- a reader that has not stopped knows what was looked for in vain
abbrev pub NotNext : Bool → List ℕ → State → State → Type 0
NotNext true piece old new = new ≡ old
NotNext false piece old new =
    (new ≡ record { left = old.left; begun = old.begun || is_front old.left piece; stopped = false }) × (is_front piece old.left ≡ false)

-- a test whether a piece stands next
abbrev pub IsNext : List ℕ → Bool → State → State → Type 0
IsNext piece true old new = (new ≡ old) × (old.stopped ≡ false) × (is_front piece old.left ≡ true)
IsNext piece false old new = NotNext old.stopped piece old new

-- one of some pieces is taken, by its place among them
abbrev pub piece_at : List (List ℕ) → ℕ → List ℕ
piece_at pieces k = get_or pieces k []

abbrev pub TakesOne : List (List ℕ) → ℕ → State → State → Type 0
TakesOne pieces k old new = Reads (piece_at pieces) (λ j. j < length pieces) shut k old new

abbrev pub is_among : List ℕ → List (List ℕ) → Bool
is_among piece [] = false
is_among piece (q ∷ pieces) = same_bytes piece q || is_among piece pieces

-- some pieces, each once
abbrev pub are_pieces : List (List ℕ) → Bool
are_pieces [] = false
are_pieces (p ∷ []) = is_piece p
are_pieces (p ∷ q ∷ pieces) = is_piece p && (not (is_among p (q ∷ pieces)) && are_pieces (q ∷ pieces))

-- which of some pieces stands in front, if one does, and how long it is
abbrev pub IsPlace : List (List ℕ) → List ℕ → Option (ℕ × ℕ) → Type 0
IsPlace pieces bytes (Some p) =
    (p.0 < length pieces) × (is_front (piece_at pieces p.0) bytes ≡ true) × (p.1 ≡ length (piece_at pieces p.0)) × (p.1 ≤ length bytes)
IsPlace pieces bytes None = AllByRecursion (λ p. is_front p bytes ≡ false) pieces

-- what is left after the piece that stands in front, if one does
abbrev pub taken_one : List (List ℕ) → Option (ℕ × ℕ) → State → State
taken_one pieces (Some p) s = cond s.stopped s (goes p.1 s)
taken_one pieces None s = cond s.stopped s (stops (s.begun || is_begun pieces s.left) s)
