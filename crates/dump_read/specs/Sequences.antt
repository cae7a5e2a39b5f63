-- Lists that a reader takes, one value after another.
use Rattle.std.specs.Prelude.{◌≡◌, ℕ, suc, ◌+◌, ◌-◌, Bool, true, cond, List, [], ◌∷◌, ◌++◌, length}
use Rattle.std.specs.List.{AllByRecursion, flat_map, enumerate_from}
use Rattle.dump_read.specs.Taken.{State, Reads}

-- what goes on after two texts, of which the second is all words of the first one's last line only where it is empty
abbrev pub opens_after : Bool → List (List ℕ) → List (List ℕ) → List (List ℕ)
opens_after nothing [] after = after
opens_after nothing (piece ∷ pieces) after = cond nothing ((piece ∷ pieces) ++ after) after

-- the texts of values, one after another, by their numbers from k on
abbrev pub list_text : {X : Type 0} → (ℕ × X → List ℕ) → ℕ → List X → List ℕ
list_text text k xs = flat_map text (enumerate_from k xs)

-- what goes on after a list: what goes on after its last value, and what stands in front of one more
abbrev pub list_opens : {X : Type 0} → List (List ℕ) → (X → List (List ℕ)) → List X → List (List ℕ)
list_opens more opens [] = more
list_opens more opens (x ∷ []) = opens_after true (opens x) more
list_opens more opens (x ∷ y ∷ xs) = list_opens more opens (y ∷ xs)

-- the values of a list are in range
abbrev pub AllIn : {X : Type 0} → (X → Type 0) → List X → Type 0
AllIn InRange xs = AllByRecursion InRange xs

-- and there are so many
abbrev pub CountIn : {X : Type 0} → (X → Type 0) → ℕ → List X → Type 0
CountIn InRange n xs = AllIn InRange xs × (length xs ≡ n)

-- ---- a list that is being read

-- What a reader took so far are some values of a list: whatever values it takes then, all of them were taken.
abbrev pub StarSoFar : {X : Type 0} → (ℕ × X → List ℕ) → (X → Type 0) → (X → List (List ℕ)) → List ℕ → ℕ → List X → State → State
    → Type 0
StarSoFar {X} text InRange opens first k items start here =
    (ys : List X) (fin : State) → Reads (list_text text (k + length items)) (AllIn InRange) (list_opens (first ∷ []) opens) ys here fin
    → Reads (list_text text k) (AllIn InRange) (list_opens (first ∷ []) opens) (items ++ ys) start fin

-- and where there are to be n of them
abbrev pub CountSoFar : {X : Type 0} → (ℕ × X → List ℕ) → (X → Type 0) → (X → List (List ℕ)) → ℕ → ℕ → List X → State → State → Type 0
CountSoFar {X} text InRange opens n k items start here =
    (ys : List X) (fin : State) → Reads (list_text text (k + length items)) (CountIn InRange (n - length items)) (list_opens [] opens) ys here fin
    → Reads (list_text text k) (CountIn InRange n) (list_opens [] opens) (items ++ ys) start fin

-- what grows less while a list is read
abbrev pub reader_size : State → ℕ
reader_size s = cond s.stopped 0 (suc (length s.left))
