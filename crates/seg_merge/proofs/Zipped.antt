-- Two lists side by side.
use Rattle.std.specs.Prelude.{◌≡◌, ℕ, ◌+◌, ◌<◌, List, [], ◌∷◌, ◌++◌, take, length, get_or, refl}
use Rattle.std.specs.List.{zip}
use Rattle.std.proofs.Common.{ap, sym, ◌∙◌, arith}
use Rattle.std.proofs.lemmas.List.{length-take-le, get_or_default}
use Rattle.seg_parts.proofs.Lists.{take-push}

pushed : (xs ys : List ℕ) (x y : ℕ) → length xs ≡ length ys → zip (xs ++ x ∷ []) (ys ++ y ∷ []) ≡ zip xs ys ++ (x, y) ∷ []
pushed [] [] x y e = refl
pushed [] (z ∷ ys) x y e = absurd (omega (arith, e))
pushed (w ∷ xs) [] x y e = absurd (omega (arith, e))
pushed (w ∷ xs) (z ∷ ys) x y e = ap (λ (t : List (ℕ × ℕ)). (w, z) ∷ t) (pushed xs ys x y (omega (arith, e)))

pub zip-more : (xs ys : List ℕ) (i x y : ℕ) (pairs next : List (ℕ × ℕ)) → i < length xs → i < length ys → pairs ≡ zip (take i xs) (take i ys) → next ≡ pairs ++ (get_or xs i x, get_or ys i y) ∷ [] → next ≡ zip (take (i + 1) xs) (take (i + 1) ys)
zip-more xs ys i x y pairs next lt under so_far grown =
    let a : ℕ = get_or xs i x in
    let b : ℕ = get_or ys i y in
    let long : length (take i xs) ≡ length (take i ys) = omega (arith, length-take-le i xs (omega (arith, lt)), length-take-le i ys (omega (arith, under))) in
    grown ∙ ap (λ (t : List (ℕ × ℕ)). t ++ (a, b) ∷ []) so_far ∙ sym (pushed (take i xs) (take i ys) a b long)
    ∙ ap (λ (t : List ℕ). zip t (take i ys ++ b ∷ [])) (sym (take-push xs i a lt (get_or_default xs i x a lt))) ∙ ap (zip (take (i + 1) xs)) (sym (take-push ys i b under (get_or_default ys i y b under)))
