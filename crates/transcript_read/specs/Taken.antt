-- What a reader takes of the words of a line. It has a list of words, or none where it has stopped: then it takes no more.
use Rattle.std.specs.Prelude.{◌≡◌, ℕ, suc, ◌<◌, List, [], ◌∷◌, ◌++◌, length, Option, Some, None}
use Rattle.std.specs.List.{AllByRecursion}
use Rattle.transcript_read.specs.Words.{Row, HasNoBlank}

-- The next word is the text of a value. A reader that stops there had no such word.
pub record Takes {A : Type 0} (text : A → List ℕ) (InRange : A → Type 0) (a : A) (old new : Option Row) : Type 0 where
  pub stopped : old ≡ None → new ≡ None
  pub took : (ws vs : Row) → old ≡ Some ws → new ≡ Some vs → InRange a × (ws ≡ text a ∷ vs)
  pub other : (ws : Row) → old ≡ Some ws → new ≡ None → (b : A) (vs : Row) → InRange b → ws ≡ text b ∷ vs → ⊥

-- All words that are left are the texts of values, one after another.
pub record TakesAll {A : Type 0} (text : A → Row) (InRange : A → Type 0) (a : A) (old new : Option Row) : Type 0 where
  pub stopped : old ≡ None → new ≡ None
  pub took : (ws vs : Row) → old ≡ Some ws → new ≡ Some vs → InRange a × (ws ≡ text a) × (vs ≡ [])
  pub other : (ws : Row) → old ≡ Some ws → new ≡ None → (b : A) → InRange b → ws ≡ text b → ⊥

-- The next so many words are taken, whatever they are.
pub record TakesSome (count : ℕ) (taken : Row) (old new : Option Row) : Type 0 where
  pub stopped : old ≡ None → new ≡ None
  pub took : (ws vs : Row) → old ≡ Some ws → new ≡ Some vs → (ws ≡ taken ++ vs) × (length taken ≡ count) × AllByRecursion HasNoBlank taken
  pub few : (ws : Row) → old ≡ Some ws → new ≡ None → length ws < count

-- The next words are the texts of a value, as many as it has.
pub record TakesPart {A : Type 0} (text : A → Row) (InRange : A → Type 0) (told : Option A) (old new : Option Row) : Type 0 where
  pub stopped : old ≡ None → told ≡ None
  pub took : (ws : Row) (a : A) → old ≡ Some ws → told ≡ Some a → (vs : Row) × InRange a × (new ≡ Some vs) × (ws ≡ text a ++ vs)
  pub other : (ws : Row) → old ≡ Some ws → told ≡ None → (b : A) (vs : Row) → InRange b → ws ≡ text b ++ vs → ⊥

-- A value is handed on where no word is left.
pub record Ends {A : Type 0} (a : A) (told : Option A) (s : Option Row) : Type 0 where
  pub some : (b : A) → told ≡ Some b → (b ≡ a) × (s ≡ Some [])
  pub none : told ≡ None → s ≡ Some [] → ⊥

-- The words that are left are the texts of a value, which is told; or of none.
pub record Tells {A : Type 0} (text : A → Row) (InRange : A → Type 0) (told : Option A) (s : Option Row) : Type 0 where
  pub some : (a : A) → told ≡ Some a → InRange a × (s ≡ Some (text a))
  pub none : told ≡ None → (a : A) → InRange a → s ≡ Some (text a) → ⊥

-- ---- lists that are read word by word

-- What a reader took so far: whatever it takes then, all of it was taken.
abbrev pub SoFar : {A : Type 0} → (List A → Row) → (A → Type 0) → List A → Option Row → Option Row → Type 0
SoFar {A} row InRange items start here =
    (ys : List A) (fin : Option Row) → TakesAll row (AllByRecursion InRange) ys here fin → TakesAll row (AllByRecursion InRange) (items ++ ys) start fin

-- what grows less
abbrev pub size_of : Option Row → ℕ
size_of None = 0
size_of (Some ws) = suc (length ws)
