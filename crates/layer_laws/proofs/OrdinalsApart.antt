-- The exports of a link that is accepted have ordinals that are not 0, and no two have one.
use Rattle.std.specs.Prelude.{◌≡◌, ◌≢◌, ℕ, ◌+◌, ◌<◌, ◌≤◌, ◌==◌, ◌||◌, Bool, false, cond, List, [], ◌∷◌, ◌++◌, Option, Some, None, map, filter, take, find, length, is_none, get_or, refl}
use Rattle.std.specs.List.{AllByRecursion, list_any, enumerate_from}
use Rattle.std.proofs.Common.{ap, sym, ◌∙◌, arith, subst, length-append, append_assoc}
use Rattle.std.proofs.Math.Seq.{take-append_seam}
use Rattle.std.proofs.lemmas.List.Elements.{filter-append}
use Rattle.std.proofs.lemmas.Bool.{or_parts}
use Rattle.link_model.specs.Words.{first_conflict}
use Rattle.link_model.specs.Exports.{given, free_ordinals, ordinal_at, ordinals, wrong_ordinal}
use Rattle.link_model.proofs.ExternalsMean.{not_mapped, not_first_by}
use Rattle.layer_laws.proofs.Apart.{Apart, no-conflict-apart}
use Rattle.layer_laws.proofs.FreeOrdinals.{none-equal, enough-free, free-apart, free-some, free-not-given, all-at, apart-at}

-- ---- ordinals that exports give

abbrev is_wrong : List ℕ → ℕ × ℕ → Bool
is_wrong gs q = q.1 == 0 || list_any (λ g. g == q.1) (take q.0 gs)

record GivenWell (front rest : List ℕ) : Type 0 where
  none : first_conflict ◌==◌ front rest ≡ None
  some : AllByRecursion (λ g. g ≢ 0) rest

given_well : (gs front rest : List ℕ) → gs ≡ front ++ rest → find (is_wrong gs) (enumerate_from (length front) rest) ≡ None → GivenWell front rest
given_well gs front [] is e = record { none = refl; some = tt }
given_well gs front (x ∷ xs) is e =
    let both = not_first_by (length front, x) (find (is_wrong gs) (enumerate_from (length front + 1) xs)) (is_wrong gs (length front, x)) e in
    let parts = or_parts (x == 0) (list_any (λ g. g == x) (take (length front) gs)) both.0 in
    let before : take (length front) gs ≡ front = ap (take (length front)) is ∙ take-append_seam front (x ∷ xs) in
    let free : list_any (λ g. g == x) front ≡ false = ap (list_any (λ g. g == x)) (sym before) ∙ parts.1 in
    let longer : length front + 1 ≡ length (front ++ x ∷ []) = sym (length-append front (x ∷ [])) in
    let rest = given_well gs (front ++ x ∷ []) xs (is ∙ sym (append_assoc front (x ∷ []) xs)) (subst (λ (n : ℕ). find (is_wrong gs) (enumerate_from n xs) ≡ None) longer both.1) in
    record {
      none = ap (λ (b : Bool). cond b (Some x) (first_conflict ◌==◌ (front ++ x ∷ []) xs)) free ∙ rest.none;
      some = (none-equal x 0 parts.0, rest.some);
    }

-- ---- ordinals one by one, the next free one being at a place

abbrev numbers : List ℕ → ℕ → List (Option ℕ) → List ℕ
numbers free r [] = []
numbers free r (Some n ∷ os) = n ∷ numbers free r os
numbers free r (None ∷ os) = get_or free r 0 ∷ numbers free (r + 1) os

abbrev nones : List (Option ℕ) → ℕ
nones os = length (filter is_none os)

nones_joined : (os ps : List (Option ℕ)) → nones (os ++ ps) ≡ nones os + nones ps
nones_joined os ps = ap length (filter-append is_none os ps) ∙ length-append (filter is_none os) (filter is_none ps)

are_numbers : (os front rest : List (Option ℕ)) → os ≡ front ++ rest → map (λ q. ordinal_at os q.0 q.1) (enumerate_from (length front) rest) ≡ numbers (free_ordinals os) (nones front) rest
are_numbers os front [] is = refl
are_numbers os front (Some n ∷ rest) is =
    let longer : length front + 1 ≡ length (front ++ Some n ∷ []) = sym (length-append front (Some n ∷ [])) in
    let same : nones (front ++ Some n ∷ []) ≡ nones front = nones_joined front (Some n ∷ []) ∙ omega arith in
    ap (λ (ns : List ℕ). n ∷ ns)
    (ap (λ (k : ℕ). map (λ q. ordinal_at os q.0 q.1) (enumerate_from k rest)) longer
    ∙ are_numbers os (front ++ Some n ∷ []) rest (is ∙ sym (append_assoc front (Some n ∷ []) rest))
    ∙ ap (λ (r : ℕ). numbers (free_ordinals os) r rest) same)
are_numbers os front (None ∷ rest) is =
    let longer : length front + 1 ≡ length (front ++ None ∷ []) = sym (length-append front (None ∷ [])) in
    let next : nones (front ++ None ∷ []) ≡ nones front + 1 = nones_joined front (None ∷ []) in
    let before : take (length front) os ≡ front = ap (take (length front)) is ∙ take-append_seam front (None ∷ rest) in
    ap (λ (n : ℕ). n ∷ map (λ q. ordinal_at os q.0 q.1) (enumerate_from (length front + 1) rest)) (ap (λ (ps : List (Option ℕ)). get_or (free_ordinals os) (nones ps) 0) before)
    ∙ ap (λ (ns : List ℕ). get_or (free_ordinals os) (nones front) 0 ∷ ns)
    (ap (λ (k : ℕ). map (λ q. ordinal_at os q.0 q.1) (enumerate_from k rest)) longer
    ∙ are_numbers os (front ++ None ∷ []) rest (is ∙ sym (append_assoc front (None ∷ []) rest))
    ∙ ap (λ (r : ℕ). numbers (free_ordinals os) r rest) next)

-- What holds of each that is given and of each free one from the next on holds of all.
each_number : (P : ℕ → Type 0) (free : List ℕ) (r : ℕ) (os : List (Option ℕ)) → AllByRecursion P (given os) → ((k : ℕ) → r ≤ k → k < length free → P (get_or free k 0)) → r + nones os ≤ length free → AllByRecursion P (numbers free r os)
each_number P free r [] all more few = tt
each_number P free r (Some n ∷ os) all more few = (all.0, each_number P free r os all.1 more few)
each_number P free r (None ∷ os) all more few =
    (more r (omega arith) (omega (arith, few)), each_number P free (r + 1) os all (λ k le lt. more k (omega (arith, le)) lt) (omega (arith, few)))

flipped : {X : Type 0} (x y : X) → x ≢ y → y ≢ x
flipped x y h e = h (sym e)

all_flipped : (x : ℕ) (ys : List ℕ) → AllByRecursion (λ y. y ≢ x) ys → AllByRecursion (λ y. x ≢ y) ys
all_flipped x [] all = tt
all_flipped x (y ∷ ys) all = (flipped y x all.0, all_flipped x ys all.1)

-- The free ones are apart, and none of them is given.
record FreeOf (free gs : List ℕ) : Type 0 where
  apart : Apart free
  other : AllByRecursion (λ n. AllByRecursion (λ g. g ≢ n) gs) free

fewer_given : (g : ℕ) (gs free : List ℕ) → AllByRecursion (λ n. AllByRecursion (λ h. h ≢ n) (g ∷ gs)) free → AllByRecursion (λ n. AllByRecursion (λ h. h ≢ n) gs) free
fewer_given g gs [] all = tt
fewer_given g gs (n ∷ free) all = (all.0.1, fewer_given g gs free all.1)

numbers_apart : (free : List ℕ) (r : ℕ) (os : List (Option ℕ)) → FreeOf free (given os) → Apart (given os) → r + nones os ≤ length free → Apart (numbers free r os)
numbers_apart free r [] well apart few = tt
numbers_apart free r (Some n ∷ os) well apart few =
    let other = fewer_given n (given os) free well.other in (
      each_number (λ y. n ≢ y) free r os apart.0 (λ k le lt. (all-at (λ m. AllByRecursion (λ g. g ≢ m) (n ∷ given os)) free k well.other lt).0) few,
      numbers_apart free r os (record { apart = well.apart; other = other }) apart.1 few,
    )
numbers_apart free r (None ∷ os) well apart few =
    let here : r < length free = omega (arith, few) in (
      each_number (λ y. get_or free r 0 ≢ y) free (r + 1) os (all_flipped (get_or free r 0) (given os) (all-at (λ m. AllByRecursion (λ g. g ≢ m) (given os)) free r well.other here)) (λ k le lt. apart-at free r k well.apart (omega (arith, le)) lt) (omega (arith, few)),
      numbers_apart free (r + 1) os well apart (omega (arith, few)),
    )

few_nones : (os : List (Option ℕ)) → nones os ≤ length os
few_nones [] = omega arith
few_nones (None ∷ os) = omega (arith, few_nones os)
few_nones (Some n ∷ os) = omega (arith, few_nones os)

-- ---- all of them

given_of : (os : List (Option ℕ)) → wrong_ordinal os ≡ None → GivenWell [] (given os)
given_of os e = given_well (given os) [] (given os) refl (not_mapped _ (find (is_wrong (given os)) (enumerate_from 0 (given os))) e)

pub ordinals-apart : (os : List (Option ℕ)) → wrong_ordinal os ≡ None → Apart (ordinals os)
ordinals-apart os e =
    let well = given_of os e in
    let enough = enough-free os in
    let few : 0 + nones os ≤ length (free_ordinals os) = omega (arith, few_nones os, enough) in
    subst (λ (ns : List ℕ). Apart ns) (sym (are_numbers os [] os refl))
    (numbers_apart (free_ordinals os) 0 os (record { apart = free-apart os; other = free-not-given os }) (no-conflict-apart ◌==◌ none-equal [] (given os) well.none) few)

above_zero : (n : ℕ) → 1 ≤ n → n ≢ 0
above_zero n h e = absurd (omega (arith, h, e))

pub ordinals-some : (os : List (Option ℕ)) → wrong_ordinal os ≡ None → AllByRecursion (λ n. n ≢ 0) (ordinals os)
ordinals-some os e =
    let well = given_of os e in
    let enough = enough-free os in
    let few : 0 + nones os ≤ length (free_ordinals os) = omega (arith, few_nones os, enough) in
    subst (AllByRecursion (λ n. n ≢ 0)) (sym (are_numbers os [] os refl))
    (each_number (λ n. n ≢ 0) (free_ordinals os) 0 os well.some (λ k le lt. above_zero (get_or (free_ordinals os) k 0) (all-at (λ n. 1 ≤ n) (free_ordinals os) k (free-some os) lt)) few)
