-- Lists of pages: which page a test finds, and tests along ranges.
use Rattle.std.proofs.Common.{◌≡◌, ◌<◌, ◌≤◌, ◌+◌, ◌-◌, ◌∙◌, ℕ, zero, suc, Bool, true, false, List, [], ◌∷◌, ◌++◌, length, map, refl, ap, arith, eqb}
use Rattle.std.specs.Prelude.{◌&&◌, cond}
use Rattle.std.specs.List.{filter, flat_map, list_any, range_with_len}
use Rattle.std.proofs.lemmas.Bool.{eqb-true, eq-eqb, and_parts, and_from}
use Rattle.std.proofs.lemmas.List.Folds.{list_any_at}
use Rattle.std.proofs.lemmas.List.FromFn.{get_or-map-range_with_len, get_or-range_with_len, length-map-range_with_len, length-range_with_len}
use Rattle.lx_types.specs.declared.object.PageId.{PageId}
use Rattle.lx_types.proofs.Lists.{any_flat_map}
use Rattle.page_fix.specs.Fixable.{is_page}

pub same_page : (p q : PageId) → is_page p q ≡ true → p ≡ q
same_page p q is =
    let both = and_parts (eqb p.object q.object) (eqb p.page q.page) is in
    λ i. record { object = eqb-true p.object q.object both.0 i; page = eqb-true p.page q.page both.1 i }

pub is_page_refl : (p : PageId) → is_page p p ≡ true
is_page_refl p = and_from (eqb p.object p.object) (eqb p.page p.page) (eq-eqb p.object p.object refl) (eq-eqb p.page p.page refl)

-- a filter of a filter
pub filter_twice : {X : Type 0} (t u : X → Bool) (xs : List X) → filter t (filter u xs) ≡ filter (λ x. u x && t x) xs
filter_twice t u [] = refl
filter_twice {X} t u (x ∷ xs) = by_test (u x) (filter_twice t u xs)
  where
    by_test : (b : Bool) → filter t (filter u xs) ≡ filter (λ y. u y && t y) xs →
        filter t (cond b (x ∷ filter u xs) (filter u xs)) ≡ cond (b && t x) (x ∷ filter (λ y. u y && t y) xs) (filter (λ y. u y && t y) xs)
    by_test true rest = ap (λ (ys : List X). cond (t x) (x ∷ ys) ys) rest
    by_test false rest = rest

-- lists that are alike at each number of a range
pub flat_alike : {A : Type 0} (f g : ℕ → List A) (from n : ℕ) → ((k : ℕ) → from ≤ k → k < from + n → f k ≡ g k) →
    flat_map f (range_with_len from n) ≡ flat_map g (range_with_len from n)
flat_alike f g from zero same = refl
flat_alike {A} f g from (suc n) same =
    ap (λ (ys : List A). ys ++ flat_map f (range_with_len (from + 1) n)) (same from (omega arith) (omega arith))
    ∙ ap (λ (ys : List A). g from ++ ys) (flat_alike f g (from + 1) n (λ k low high. same k (omega arith) (omega arith)))

-- the pages of an object that has so many
abbrev pub pages_to : ℕ → ℕ → List PageId
pages_to object n = map (λ k. record { object = object; page = k }) (range_with_len 0 n)

pub page_found : (p : PageId) (n : ℕ) → p.page < n → list_any (is_page p) (pages_to p.object n) ≡ true
page_found p n below =
    list_any_at (is_page p) (pages_to p.object n) p.page p
    (let long : length (pages_to p.object n) ≡ n = length-map-range_with_len (λ k. record { object = p.object; page = k }) 0 n in omega (arith, long, below))
    (ap (is_page p) (get_or-map-range_with_len (λ k. record { object = p.object; page = k }) 0 n p.page p.page p below (omega arith)) ∙ is_page_refl p)

-- objects are numbered from 1
pub found_in_rows : (p : PageId) (sizes : ℕ → ℕ) (n : ℕ) → 1 ≤ p.object → p.object ≤ n → p.page < sizes p.object →
    list_any (is_page p) (flat_map (λ object. pages_to object (sizes object)) (range_with_len 1 n)) ≡ true
found_in_rows p sizes n low high below =
    any_flat_map (is_page p) (λ object. pages_to object (sizes object)) (range_with_len 1 n)
    ∙ list_any_at (λ object. list_any (is_page p) (pages_to object (sizes object))) (range_with_len 1 n) k 0
    (let long = length-range_with_len 1 n in omega arith)
    (ap (λ object. list_any (is_page p) (pages_to object (sizes object))) (get_or-range_with_len 1 n k 0 (omega arith) ∙ number) ∙ page_found p (sizes p.object) below)
  where
    k : ℕ
    k = p.object - 1

    number : 1 + k ≡ p.object
    number = omega arith
