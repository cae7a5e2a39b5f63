-- The greatest ends of the data of COMDATs, with one piece more.
use Rattle.std.proofs.Common.{◌≡◌, ◌≢◌, ℕ, zero, suc, ◌+◌, ◌<◌, ◌≤◌, Bool, true, false, cond, eqb, List, [], ◌∷◌, ◌++◌, length, map, replicate, set, refl, sym, ap, ◌∙◌, arith}
use Rattle.std.specs.Prelude.{max}
use Rattle.std.specs.List.{filter, fold, range_with_len}
use Rattle.std.proofs.lemmas.Bool.{eq-eqb}
use Rattle.std.proofs.lemmas.List.Elements.{filter-append}
use Rattle.std.proofs.lemmas.List.Sums.{fold-append}
use Rattle.obj_types.specs.declared.object.Piece.{Piece}
use Rattle.omf_model.specs.Finished.{greatest_end}
use Rattle.omf_model.proofs.NumberLaws.{not-equal}

abbrev with_end : ℕ → Piece → ℕ
with_end len q = max len (q.offset + length q.bytes)

abbrev of_number : ℕ → Piece → Bool
of_number number q = eqb q.seg number

one-more : (before : List Piece) (x : Piece) (number : ℕ) → greatest_end (before ++ x ∷ []) number ≡ cond (eqb x.seg number) (with_end (greatest_end before number) x) (greatest_end before number)
one-more before x number =
    ap (λ (ys : List Piece). fold with_end 0 ys) (filter-append (of_number number) before (x ∷ []))
    ∙ fold-append with_end 0 (filter (of_number number) before) (filter (of_number number) (x ∷ []))
    ∙ last (eqb x.seg number) (greatest_end before number)
  where
    last : (own : Bool) (len : ℕ) → fold with_end len (cond own (x ∷ []) []) ≡ cond own (with_end len x) len
    last true len = refl
    last false len = refl

-- a piece of another number
apart : (before : List Piece) (x : Piece) (number : ℕ) → x.seg ≢ number → greatest_end before number ≡ greatest_end (before ++ x ∷ []) number
apart before x number other = sym (one-more before x number ∙ rw (not-equal x.seg number other) refl)

pub ends-apart : (before : List Piece) (x : Piece) (a n : ℕ) → ((j : ℕ) → a ≤ j → j < a + n → x.seg ≢ j) → map (greatest_end before) (range_with_len a n) ≡ map (greatest_end (before ++ x ∷ [])) (range_with_len a n)
ends-apart before x a zero other = refl
ends-apart before x a (suc n) other =
    let first = apart before x a (other a (omega arith) (omega arith)) in
    let rest = ends-apart before x (a + 1) n (λ j low high. other j (omega (arith, low)) (omega (arith, high))) in
    λ i. first i ∷ rest i

-- a piece of number k from a on
pub ends-set : (before : List Piece) (x : Piece) (k a n end : ℕ) → x.seg ≡ a + k → k < n → end ≡ with_end (greatest_end before x.seg) x → set (map (greatest_end before) (range_with_len a n)) k end ≡ map (greatest_end (before ++ x ∷ [])) (range_with_len a n)
ends-set before x k a zero end at lt is = absurd (omega (arith, lt))
ends-set before x zero a (suc n) end at lt is =
    let here : x.seg ≡ a = omega (arith, at) in
    let first : end ≡ greatest_end (before ++ x ∷ []) a = is ∙ ap (λ (j : ℕ). with_end (greatest_end before j) x) here ∙ sym (one-more before x a ∙ rw (eq-eqb x.seg a here) refl) in
    let rest = ends-apart before x (a + 1) n (λ j low high same. omega (arith, low, same, here)) in
    λ i. first i ∷ rest i
ends-set before x (suc k) a (suc n) end at lt is =
    let first = apart before x a (λ same. omega (arith, same, at)) in
    let rest = ends-set before x k (a + 1) n end (omega (arith, at)) (omega (arith, lt)) is in
    λ i. first i ∷ rest i

-- where there are no pieces
pub no-ends : (a n : ℕ) → replicate n 0 ≡ map (greatest_end []) (range_with_len a n)
no-ends a zero = refl
no-ends a (suc n) = ap (λ (ys : List ℕ). 0 ∷ ys) (no-ends (a + 1) n)
