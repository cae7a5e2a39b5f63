-- Each pair of a list, and the copies of an offset in blocks.
use Rattle.std.proofs.Common.{◌≡◌, ℕ, zero, suc, ◌+◌, ◌-◌, ◌<◌, ◌≤◌, Bool, true, false, eqb, leb, List, [], ◌∷◌, ◌++◌, length, map, get_or, ap, subst, arith, inl, inr}
use Rattle.std.specs.Prelude.{◌&&◌, ◌||◌}
use Rattle.std.specs.List.{AllByRecursion, AllPairs, filter, list_any, range_with_len}
use Rattle.std.proofs.lemmas.Bool.{cases_lt, eqb-true, leb-true}
use Rattle.lx_types.proofs.Lists.{all_joined}
use Rattle.omf_model.specs.Blocks.{Blocks, origins, contents, expanded_len}
use Rattle.omf_model.specs.Fixups.{places_of}
use Rattle.omf_model.proofs.DataLaws.{bool_cases}
use Rattle.omf_model.proofs.FixLaws.{and_true}
use Rattle.omf_model.proofs.CopyLaws.{Runs, origins-run, length-origins}

abbrev pub Pairs : {A : Type 0} → (A → A → Type 0) → List A → Type 0
Pairs R [] = Unit {0}
Pairs R (x ∷ xs) = AllByRecursion (R x) xs × Pairs R xs

pub all-at : {A : Type 0} (P : A → Type 0) (xs : List A) → AllByRecursion P xs → (k : ℕ) (d : A) → k < length xs → P (get_or xs k d)
all-at P [] h k d lt = absurd (omega (arith, lt))
all-at P (x ∷ xs) h zero d lt = h.0
all-at P (x ∷ xs) h (suc k) d lt = all-at P xs h.1 k d (omega (arith, lt))

pub pairs-at : {A : Type 0} (R : A → A → Type 0) (xs : List A) → Pairs R xs → AllPairs R xs
pairs-at R [] h i j d lt past = absurd (omega (arith, past))
pairs-at R (x ∷ xs) h zero zero d lt past = absurd (omega (arith, lt))
pairs-at R (x ∷ xs) h zero (suc j) d lt past = all-at (R x) xs h.0 j d (omega (arith, past))
pairs-at R (x ∷ xs) h (suc i) zero d lt past = absurd (omega (arith, lt))
pairs-at R (x ∷ xs) h (suc i) (suc j) d lt past = pairs-at R xs h.1 i j d (omega (arith, lt)) (omega (arith, past))

-- each pair of two lists joined
pub pairs-append : {A : Type 0} (R : A → A → Type 0) (xs ys : List A) → Pairs R xs → Pairs R ys → AllByRecursion (λ x. AllByRecursion (R x) ys) xs → Pairs R (xs ++ ys)
pairs-append R [] ys a b c = b
pairs-append R (x ∷ xs) ys a b c = (all_joined (R x) xs ys a.0 c.0, pairs-append R xs ys a.1 b c.1)

pub pairs-map : {A B : Type 0} (R : A → A → Type 0) (S : B → B → Type 0) (f : A → B) → ((x y : A) → R x y → S (f x) (f y)) → (xs : List A) → Pairs R xs → Pairs S (map f xs)
pairs-map R S f h [] p = tt
pairs-map {A = A} R S f h (x ∷ xs) p = (each xs p.0, pairs-map R S f h xs p.1)
  where
    each : (ys : List A) → AllByRecursion (R x) ys → AllByRecursion (S (f x)) (map f ys)
    each [] a = tt
    each (y ∷ ys) a = (h x y a.0, each ys a.1)

pub all-mapped : {A B : Type 0} (P : A → Type 0) (Q : B → Type 0) (f : A → B) → ((x : A) → P x → Q (f x)) → (xs : List A) → AllByRecursion P xs → AllByRecursion Q (map f xs)
all-mapped P Q f h [] a = tt
all-mapped P Q f h (x ∷ xs) a = (h x a.0, all-mapped P Q f h xs a.1)

-- ---- the places of a number

abbrev Above : ℕ → ℕ → Type 0
Above a x = a ≤ x

filter-all : (P : ℕ → Type 0) (test : ℕ → Bool) (xs : List ℕ) → AllByRecursion P xs → AllByRecursion (λ x. P x × (test x ≡ true)) (filter test xs)
filter-all P test [] h = tt
filter-all P test (x ∷ xs) h =
    elim (bool_cases (test x)) [
      | inl t ↦ rw t ((h.0, t), filter-all P test xs h.1)
      | inr t ↦ rw t (filter-all P test xs h.1)
    ]

filter-keeps : (P : ℕ → Type 0) (test : ℕ → Bool) (xs : List ℕ) → AllByRecursion P xs → AllByRecursion P (filter test xs)
filter-keeps P test [] h = tt
filter-keeps P test (x ∷ xs) h =
    elim (bool_cases (test x)) [
      | inl t ↦ rw t (h.0, filter-keeps P test xs h.1)
      | inr t ↦ rw t (filter-keeps P test xs h.1)
    ]

filter-pairs : (R : ℕ → ℕ → Type 0) (test : ℕ → Bool) (xs : List ℕ) → Pairs R xs → Pairs R (filter test xs)
filter-pairs R test [] h = tt
filter-pairs R test (x ∷ xs) h =
    elim (bool_cases (test x)) [
      | inl t ↦ rw t (filter-keeps (R x) test xs h.0, filter-pairs R test xs h.1)
      | inr t ↦ rw t (filter-pairs R test xs h.1)
    ]

range-all : (a n : ℕ) → AllByRecursion (λ x. (a ≤ x) × (x < a + n)) (range_with_len a n)
range-all a zero = tt
range-all a (suc n) = ((omega arith, omega arith), widen (range_with_len (a + 1) n) (range-all (a + 1) n))
  where
    widen : (xs : List ℕ) → AllByRecursion (λ x. (a + 1 ≤ x) × (x < a + 1 + n)) xs → AllByRecursion (λ x. (a ≤ x) × (x < a + suc n)) xs
    widen [] h = tt
    widen (x ∷ xs) h = ((omega (arith, h.0.0), omega (arith, h.0.1)), widen xs h.1)

range-pairs : (a n : ℕ) → Pairs (λ x y. x < y) (range_with_len a n)
range-pairs a zero = tt
range-pairs a (suc n) = (later (range_with_len (a + 1) n) (range-all (a + 1) n), range-pairs (a + 1) n)
  where
    later : (xs : List ℕ) → AllByRecursion (λ x. (a + 1 ≤ x) × (x < a + 1 + n)) xs → AllByRecursion (λ x. a < x) xs
    later [] h = tt
    later (x ∷ xs) h = (omega (arith, h.0.0), later xs h.1)

abbrev pub IsPlace : ℕ → List ℕ → ℕ → Type 0
IsPlace o xs x = (x < length xs) × (get_or xs x 0 ≡ o)

pub places-are : (o : ℕ) (xs : List ℕ) → AllByRecursion (IsPlace o xs) (places_of o xs)
places-are o xs = turn (places_of o xs) (filter-all (λ x. (0 ≤ x) × (x < 0 + length xs)) (λ x. eqb (get_or xs x 0) o) (range_with_len 0 (length xs)) (range-all 0 (length xs)))
  where
    turn : (ys : List ℕ) → AllByRecursion (λ x. ((0 ≤ x) × (x < 0 + length xs)) × (eqb (get_or xs x 0) o ≡ true)) ys → AllByRecursion (IsPlace o xs) ys
    turn [] h = tt
    turn (y ∷ ys) h = ((omega (arith, h.0.0.1), eqb-true _ _ h.0.1), turn ys h.1)

places-ascend : (o : ℕ) (xs : List ℕ) → Pairs (λ x y. x < y) (places_of o xs)
places-ascend o xs = filter-pairs (λ x y. x < y) (λ x. eqb (get_or xs x 0) o) (range_with_len 0 (length xs)) (range-pairs 0 (length xs))

-- a run of len from o on is all there, at each place of o
module _ (xs : List ℕ) (a z o len : ℕ) (runs : Runs xs a z) (low : a ≤ o) (high : o + len ≤ z) (some : 1 ≤ len) where
  place-fits : (x : ℕ) → IsPlace o xs x → x + len ≤ length xs
  place-fits x p =
      let g = runs x (len - 1) p.0 (omega (arith, low, p.1)) (omega (arith, high, some, p.1)) in
      omega (arith, g.there, some)

  places-apart : (x y : ℕ) → IsPlace o xs x → IsPlace o xs y → x < y → x + len ≤ y
  places-apart x y p q lt =
      elim (cases_lt y (x + len)) [
        | inl near ↦
            let g = runs x (y - x) p.0 (omega (arith, low, p.1)) (omega (arith, high, p.1, near, lt)) in
            let same : get_or xs (x + (y - x)) 0 ≡ get_or xs y 0 = ap (λ (n : ℕ). get_or xs n 0) (let e : x + (y - x) ≡ y = omega (arith, lt) in e) in
            absurd (omega (arith, same, g.is, p.1, q.1, lt))
        | inr far ↦ far
      ]

  apart-all : (x : ℕ) → IsPlace o xs x → (ys : List ℕ) → AllByRecursion (IsPlace o xs) ys → AllByRecursion (λ y. x < y) ys → AllByRecursion (λ y. x + len ≤ y) ys
  apart-all x p [] q lt = tt
  apart-all x p (y ∷ ys) q lt = (places-apart x y p q.0 lt.0, apart-all x p ys q.1 lt.1)

  apart-pairs : (ys : List ℕ) → AllByRecursion (IsPlace o xs) ys → Pairs (λ x y. x < y) ys → Pairs (λ x y. x + len ≤ y) ys
  apart-pairs [] q p = tt
  apart-pairs (y ∷ ys) q p = (apart-all y q.0 ys q.1 p.0, apart-pairs ys q.1 p.1)

  fits-all : (ys : List ℕ) → AllByRecursion (IsPlace o xs) ys → AllByRecursion (λ x. x + len ≤ length xs) ys
  fits-all [] q = tt
  fits-all (y ∷ ys) q = (place-fits y q.0, fits-all ys q.1)

any-found : (p : ℕ × ℕ → Bool) (Q : ℕ × ℕ → Type 0) (cs : List (ℕ × ℕ)) → AllByRecursion Q cs → list_any p cs ≡ true → (c : ℕ × ℕ) × (p c ≡ true) × Q c
any-found p Q [] a e = absurd cc
any-found p Q (c ∷ cs) a e =
    elim (bool_cases (p c)) [
      | inl h ↦ (c, h, a.0)
      | inr h ↦ any-found p Q cs a.1 (let rest : (false || list_any p cs) ≡ true = subst (λ (b : Bool). (b || list_any p cs) ≡ true) h e in rest)
    ]

-- The copies of an offset lie within the expanded data, and are as far apart as the location is long.
pub copies : (wide : Bool) (b : Blocks) (o len : ℕ) → 1 ≤ len → list_any (λ (c : ℕ × ℕ). leb c.0 o && leb (o + len) c.1) (contents wide 0 b) ≡ true
    → AllByRecursion (λ x. x + len ≤ expanded_len b) (places_of o (origins wide 0 b)) × Pairs (λ x y. x + len ≤ y) (places_of o (origins wide 0 b))
copies wide b o len some found =
    let xs : List ℕ = origins wide 0 b in
    let c = any-found (λ (c : ℕ × ℕ). leb c.0 o && leb (o + len) c.1) (λ c. Runs xs c.0 c.1) (contents wide 0 b) (origins-run wide 0 b) found in
    let t = and_true _ _ c.1 in
    let are = places-are o xs in (
      subst (λ (n : ℕ). AllByRecursion (λ x. x + len ≤ n) (places_of o xs)) (length-origins wide 0 b) (fits-all xs c.0.0 c.0.1 o len c.2 (leb-true _ _ t.0) (leb-true _ _ t.1) some (places_of o xs) are),
      apart-pairs xs c.0.0 c.0.1 o len c.2 (leb-true _ _ t.0) (leb-true _ _ t.1) some (places_of o xs) are (places-ascend o xs),
    )
