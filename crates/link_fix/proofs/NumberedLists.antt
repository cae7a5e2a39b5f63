-- Lists of numbered items, one item longer.
use Rattle.std.specs.Prelude.{◌≡◌, ℕ, suc, ◌+◌, ◌<◌, List, [], ◌∷◌, ◌++◌, map, take, length}
use Rattle.std.specs.List.{enumerate_from}
use Rattle.std.proofs.Common.{ap, ◌∙◌, arith, get_or}
use Rattle.std.proofs.lemmas.List.{take_more, length-take-le}

numbered-push : {X A : Type 0} (f : ℕ × X → A) (s : ℕ) (xs : List X) (x : X) → map f (enumerate_from s (xs ++ x ∷ [])) ≡ map f (enumerate_from s xs) ++ f (s + length xs, x) ∷ []
numbered-push f s [] x = let e : s ≡ s + 0 = omega arith in ap (λ (k : ℕ). f (k, x) ∷ []) e
numbered-push f s (y ∷ xs) x =
    let e : s + 1 + length xs ≡ s + suc (length xs) = omega arith in
    ap (λ zs. f (s, y) ∷ zs) (numbered-push f (s + 1) xs x ∙ ap (λ (k : ℕ). map f (enumerate_from (s + 1) xs) ++ f (k, x) ∷ []) e)

pub numbered-more : {X A : Type 0} (f : ℕ × X → A) (s i : ℕ) (xs : List X) (d : X) → i < length xs → map f (enumerate_from s (take (i + 1) xs)) ≡ map f (enumerate_from s (take i xs)) ++ f (s + i, get_or xs i d) ∷ []
numbered-more f s i xs d h =
    let long : length (take i xs) ≡ i = length-take-le i xs (omega arith) in
    ap (λ ys. map f (enumerate_from s ys)) (take_more xs i d h) ∙ numbered-push f s (take i xs) (get_or xs i d)
    ∙ ap (λ (k : ℕ). map f (enumerate_from s (take i xs)) ++ f (s + k, get_or xs i d) ∷ []) long
