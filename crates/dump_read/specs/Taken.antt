-- What a reader takes of the bytes that are left: the text of a value, or a part of one, where it stops.
use Rattle.std.specs.Prelude.{◌≡◌, ℕ, ◌==◌, Bool, true, false, ◌&&◌, ◌||◌, cond}
use Rattle.std.specs.Prelude.{List, [], ◌∷◌, ◌++◌}
use Rattle.std.specs.List.{AllByRecursion}
use Rattle.dump_model.specs.Words.{no_break, IsWord, IsAfter}

-- ---- pieces, and what stands in front of bytes

-- a word, and what stands after it
pub record IsPiece (piece : List ℕ) : Type 0 where
  pub word : List ℕ
  pub after : ℕ
  pub inside : IsWord word
  pub ends : IsAfter after
  pub is : piece ≡ word ++ after ∷ []

-- the first line of some bytes, with its end if it has one
abbrev pub line_left : List ℕ → List ℕ
line_left [] = []
line_left (b ∷ bytes) = b ∷ cond (b == 0x0A) [] (line_left bytes)

abbrev pub same_bytes : List ℕ → List ℕ → Bool
same_bytes [] [] = true
same_bytes (a ∷ xs) [] = false
same_bytes [] (b ∷ bs) = false
same_bytes (a ∷ xs) (b ∷ bs) = a == b && same_bytes xs bs

-- bytes begin with those of front
abbrev pub is_front : List ℕ → List ℕ → Bool
is_front [] bytes = true
is_front (f ∷ front) [] = false
is_front (f ∷ front) (b ∷ bytes) = f == b && is_front front bytes

-- no such text stands in front
abbrev pub Apart : List ℕ → List ℕ → Type 0
Apart bytes piece = (rest : List ℕ) → bytes ≡ piece ++ rest → ⊥

abbrev pub AllApart : List (List ℕ) → List ℕ → Type 0
AllApart pieces bytes = AllByRecursion (Apart bytes) pieces

-- one of some pieces begins with all of the bytes
abbrev pub is_begun : List (List ℕ) → List ℕ → Bool
is_begun [] bytes = false
is_begun (piece ∷ pieces) bytes = is_front bytes piece || is_begun pieces bytes

-- ---- a reader

-- What a reader has: the bytes that are left, whether what was looked for in vain begins with all of them, and whether the
-- reader has stopped, since no text goes on like this.
pub record State : Type 0 where
  pub left : List ℕ
  pub begun : Bool
  pub stopped : Bool

-- Values have texts. After the text of a value some pieces may follow with which another value's text would go on: they are
-- not there where this value is read.
pub record Took {A : Type 0} (text : A → List ℕ) (InRange : A → Type 0) (opens : A → List (List ℕ)) (a : A) (old new : State) : Type 0 where
  pub range : InRange a
  pub is : old.left ≡ text a ++ new.left
  pub closed : AllApart (opens a) new.left
  pub flag : new.begun ≡ (old.begun && no_break (text a)) || is_begun (opens a) new.left

-- A part of a text is taken, and what is left does not go on with it: all of it begins what is looked for, or no text has its
-- first line there.
pub record Stops {A : Type 0} (text : A → List ℕ) (InRange : A → Type 0) (opens : A → List (List ℕ)) (old new : State) : Type 0 where
  pub used : List ℕ
  pub is : old.left ≡ used ++ new.left
  pub viable : (a : A) × (rest : List ℕ) × InRange a × (text a ≡ used ++ rest)
  pub own : Bool
  pub flag : new.begun ≡ (old.begun && no_break used) || own
  pub begun : own ≡ true → (a : A) × (b : ℕ) × (rest : List ℕ) × InRange a × IsWord new.left × (text a ≡ used ++ (new.left ++ b ∷ rest))
  pub other : own ≡ false → (a : A) (r s : List ℕ) → InRange a → AllApart (opens a) s → used ++ (line_left new.left ++ r) ≡ text a ++ s → ⊥

-- A reader that has stopped takes no more.
abbrev pub Outcome : {A : Type 0} → Bool → Bool → (A → List ℕ) → (A → Type 0) → (A → List (List ℕ)) → A → State → State → Type 0
Outcome true b text InRange opens a old new = new ≡ old
Outcome false false text InRange opens a old new = Took text InRange opens a old new
Outcome false true text InRange opens a old new = Stops text InRange opens old new

abbrev pub Reads : {A : Type 0} → (A → List ℕ) → (A → Type 0) → (A → List (List ℕ)) → A → State → State → Type 0
Reads text InRange opens a old new = Outcome old.stopped new.stopped text InRange opens a old new

-- nothing goes on after a text
abbrev pub shut : {A : Type 0} → A → List (List ℕ)
shut a = []

-- a text is taken as it stands
abbrev pub Takes : List ℕ → State → State → Type 0
Takes piece old new = Reads {A = Unit {0}} (λ _. piece) (λ _. Unit {0}) shut tt old new
