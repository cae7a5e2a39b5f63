-- Steps of loops that keep what passes a test.
use Rattle.std.specs.Prelude.{◌≡◌, ℕ, ◌+◌, ◌<◌, Bool, true, false, cond, List, [], ◌∷◌, ◌++◌, length, take, filter, ◌==◌, refl}
use Rattle.std.proofs.Common.{ap, sym, ◌∙◌, arith}
use Rattle.std.proofs.lemmas.Bool.{eqb-true}
use Rattle.std.proofs.Math.ListN.{get_or}
use Rattle.std.proofs.lemmas.List.{append-nil, take_more}
use Rattle.std.proofs.lemmas.List.Elements.{filter-append}

filter_by : {X : Type 0} (test : X → Bool) (xs : List X) (i : ℕ) (d : X) (b : Bool) → i < length xs → test (get_or xs i d) ≡ b → filter test (take (i + 1) xs) ≡ filter test (take i xs) ++ cond b (get_or xs i d ∷ []) []
filter_by {X} test xs i d b below is =
    ap (filter test) (take_more xs i d below) ∙ filter-append test (take i xs) (get_or xs i d ∷ [])
    ∙ ap (λ (c : Bool). filter test (take i xs) ++ cond c (get_or xs i d ∷ []) []) is

pub filter_kept : {X : Type 0} (test : X → Bool) (xs : List X) (i : ℕ) (d : X) (old new : List X) → i < length xs → test (get_or xs i d) ≡ true → old ≡ filter test (take i xs) → new ≡ old ++ get_or xs i d ∷ [] → new ≡ filter test (take (i + 1) xs)
filter_kept {X} test xs i d old new below is before made = made ∙ ap (λ (ys : List X). ys ++ get_or xs i d ∷ []) before ∙ sym (filter_by test xs i d true below is)

pub filter_left : {X : Type 0} (test : X → Bool) (xs : List X) (i : ℕ) (d : X) (old new : List X) → i < length xs → test (get_or xs i d) ≡ false → old ≡ filter test (take i xs) → new ≡ old → new ≡ filter test (take (i + 1) xs)
filter_left test xs i d old new below is before made = made ∙ before ∙ sym (filter_by test xs i d false below is ∙ append-nil (filter test (take i xs)))

pub no_items : {X : Type 0} (xs : List X) → length xs == 0 ≡ true → xs ≡ []
no_items [] e = refl
no_items (x ∷ xs) e = let none : length (x ∷ xs) ≡ 0 = eqb-true (length (x ∷ xs)) 0 e in absurd (omega (arith, none))
