-- Lists in order: of any items there is one, and no other.
use Rattle.std.specs.Prelude.{◌≡◌, ℕ, zero, suc, ◌+◌, ◌<◌, Bool, true, false, cond, List, [], ◌∷◌, IsPermutation, IsSorted, refl}
use Rattle.std.specs.List.{AllByRecursion, sum_by}
use Rattle.std.specs.declared.cmp.Ordering.{Ordering}
use Rattle.std.specs.declared.cmp.Ordering.TheVariants.{Less, Equal, Greater}
use Rattle.std.specs.Ordering.{is_lt, is_eq, ordering_reverse}
use Rattle.std.specs.Cmp.{IsTotalOrder, IsStrictWeakOrder}
use Rattle.std.specs.FinMap.{IsAntisymmetric}
use Rattle.std.proofs.Common.{ap, sym, ◌∙◌, arith, true≢false, subst, get_or}
use Rattle.std.proofs.lemmas.Cmp.{tied_itself}
use Rattle.std.proofs.lemmas.List.Sums.{sum_by-cons}
use Rattle.std.proofs.lemmas.List.Sorted.{ranks_by, IsPermutation-refl, IsPermutation-trans, IsPermutation-cons, IsPermutation-middle, sum_by-IsPermutation}

-- ---- an ascending list, by recursion

abbrev pub Ascends : {X : Type 0} → (X → X → Ordering) → List X → Type 0
Ascends cmp [] = Unit {0}
Ascends cmp (x ∷ []) = Unit {0}
Ascends cmp (x ∷ y ∷ ys) = (is_lt (cmp y x) ≡ false) × Ascends cmp (y ∷ ys)

pub sorted-from_ascends : {X : Type 0} (cmp : X → X → Ordering) (xs : List X) → Ascends cmp xs → IsSorted cmp xs
sorted-from_ascends cmp [] h k d low lt = absurd (omega (arith, lt))
sorted-from_ascends cmp (x ∷ []) h k d low lt = absurd (omega (arith, lt))
sorted-from_ascends cmp (x ∷ y ∷ ys) h zero d low lt = h.0
sorted-from_ascends {X} cmp (x ∷ y ∷ ys) h (suc k) d low lt =
    let next : suc (k + 1) ≡ suc k + 1 = omega arith in
    subst (λ n. is_lt (cmp (get_or (x ∷ y ∷ ys) n d) (get_or (y ∷ ys) k d)) ≡ false) next (sorted-from_ascends cmp (y ∷ ys) h.1 k d (omega arith) (omega (arith, lt)))

pub ascends-from_sorted : {X : Type 0} (cmp : X → X → Ordering) (xs : List X) → IsSorted cmp xs → Ascends cmp xs
ascends-from_sorted cmp [] s = tt
ascends-from_sorted cmp (x ∷ []) s = tt
ascends-from_sorted {X} cmp (x ∷ y ∷ ys) s = (
  s 0 x (omega arith) (omega arith),
  ascends-from_sorted cmp (y ∷ ys) (λ k d low lt.
      let next : suc k + 1 ≡ suc (k + 1) = omega arith in
      subst (λ n. is_lt (cmp (get_or (x ∷ y ∷ ys) n d) (get_or (y ∷ ys) k d)) ≡ false) next (s (suc k) d (omega arith) (omega (arith, lt)))),
)

-- ---- no later one is less

no_less : {X : Type 0} (cmp : X → X → Ordering) → IsStrictWeakOrder (λ a b. is_lt (cmp a b)) → (x y : X) (ys : List X) → is_lt (cmp y x) ≡ false
    → AllByRecursion (λ e. is_lt (cmp e y) ≡ false) ys → AllByRecursion (λ e. is_lt (cmp e x) ≡ false) ys
no_less cmp o x y [] h all = tt
no_less cmp o x y (e ∷ ys) h all = (o.chain e y x all.0 h, no_less cmp o x y ys h all.1)

pub none_less : {X : Type 0} (cmp : X → X → Ordering) → IsStrictWeakOrder (λ a b. is_lt (cmp a b)) → (x : X) (ys : List X) → Ascends cmp (x ∷ ys)
    → AllByRecursion (λ e. is_lt (cmp e x) ≡ false) ys
none_less cmp o x [] h = tt
none_less cmp o x (y ∷ ys) h = (h.0, no_less cmp o x y ys h.0 (none_less cmp o y ys h.1))

-- ---- how often an item is there

abbrev pub once_if : Bool → ℕ
once_if b = cond b 1 0

abbrev pub is_at : {X : Type 0} → (X → X → Ordering) → X → X → ℕ
is_at cmp z x = once_if (is_eq (cmp z x))

abbrev pub times : {X : Type 0} → (X → X → Ordering) → X → List X → ℕ
times cmp z xs = sum_by (is_at cmp z) xs

at_itself : {X : Type 0} (cmp : X → X → Ordering) → IsTotalOrder cmp → (x : X) → is_at cmp x x ≡ 1
at_itself cmp o x = ap (λ (r : Ordering). once_if (is_eq r)) (tied_itself o x)

-- What is there is no less than what all are no less than.
seen : {X : Type 0} (cmp : X → X → Ordering) → IsAntisymmetric cmp → (z y : X) (ys : List X) → AllByRecursion (λ e. is_lt (cmp e y) ≡ false) ys
    → 0 < times cmp z ys → is_lt (cmp z y) ≡ false
seen cmp same z y [] all c = absurd (omega (arith, c))
seen {X} cmp same z y (e ∷ ys) all c =
    by (cmp z e) refl (subst (λ n. 0 < n) (sum_by-cons (is_at cmp z) e ys) c) (λ d. seen cmp same z y ys all.1 d)
  where
    by : (r : Ordering) → cmp z e ≡ r → 0 < once_if (is_eq (cmp z e)) + times cmp z ys → (0 < times cmp z ys → is_lt (cmp z y) ≡ false)
        → is_lt (cmp z y) ≡ false
    by Equal is c rest = subst (λ (w : X). is_lt (cmp w y) ≡ false) (sym (same z e is)) all.0
    by Less is c rest =
        let none : once_if (is_eq (cmp z e)) ≡ 0 = ap (λ (r : Ordering). once_if (is_eq r)) is in rest (omega (arith, none, c))
    by Greater is c rest =
        let none : once_if (is_eq (cmp z e)) ≡ 0 = ap (λ (r : Ordering). once_if (is_eq r)) is in rest (omega (arith, none, c))

-- ---- two ascending lists of the same items

level : {X : Type 0} (cmp : X → X → Ordering) → IsTotalOrder cmp → (x y : X) → is_lt (cmp x y) ≡ false → is_lt (cmp y x) ≡ false → cmp x y ≡ Equal
level cmp o x y up down = by (cmp x y) refl
  where
    by : (r : Ordering) → cmp x y ≡ r → cmp x y ≡ Equal
    by Equal is = is
    by Less is = absurd (true≢false (sym (ap is_lt is) ∙ up))
    by Greater is = absurd (true≢false (sym (ap is_lt (o.antisymm y x ∙ ap ordering_reverse is)) ∙ down))

pub one_ascends : {X : Type 0} (cmp : X → X → Ordering) → IsTotalOrder cmp → IsAntisymmetric cmp → (xs ys : List X) → Ascends cmp xs → Ascends cmp ys
    → ((z : X) → times cmp z xs ≡ times cmp z ys) → xs ≡ ys
one_ascends cmp o same [] [] a b h = refl
one_ascends cmp o same [] (y ∷ ys) a b h =
    let one = at_itself cmp o y in let e = h y ∙ sum_by-cons (is_at cmp y) y ys in absurd (omega (arith, one, e))
one_ascends cmp o same (x ∷ xs) [] a b h =
    let one = at_itself cmp o x in let e = sym (h x) ∙ sum_by-cons (is_at cmp x) x xs in absurd (omega (arith, one, e))
one_ascends {X} cmp o same (x ∷ xs) (y ∷ ys) a b h =
    let w = ranks_by o (λ (e : X). e) in
    let level_self : (e : X) → is_lt (cmp e e) ≡ false = λ e. ap is_lt (tied_itself o e) in
    let x_one = at_itself cmp o x in
    let y_one = at_itself cmp o y in
    let ex = sym (h x) ∙ sum_by-cons (is_at cmp x) x xs in
    let ey = h y ∙ sum_by-cons (is_at cmp y) y ys in
    let up = seen cmp same x y (y ∷ ys) (level_self y, none_less cmp w y ys b) (omega (arith, x_one, ex)) in
    let down = seen cmp same y x (x ∷ xs) (level_self x, none_less cmp w x xs a) (omega (arith, y_one, ey)) in
    let e : x ≡ y = same x y (level cmp o x y up down) in
    let rest : xs ≡ ys = one_ascends cmp o same xs ys (after cmp x xs a) (after cmp y ys b) (λ z.
    let at = ap (λ (v : X). is_at cmp z v) e in
    let hx = sum_by-cons (is_at cmp z) x xs in
    let hy = sum_by-cons (is_at cmp z) y ys in
    let hz = h z in
    omega (arith, at, hx, hy, hz)) in
    λ i. e i ∷ rest i
  where
    after : {X : Type 0} (cmp : X → X → Ordering) (x : X) (xs : List X) → Ascends cmp (x ∷ xs) → Ascends cmp xs
    after cmp x [] h = tt
    after cmp x (y ∷ ys) h = h.1

-- Of the same items there is one list in order.
pub one_sorted : {X : Type 0} (cmp : X → X → Ordering) → IsTotalOrder cmp → IsAntisymmetric cmp → (items xs ys : List X) → IsPermutation items xs → IsSorted cmp xs
    → IsPermutation items ys → IsSorted cmp ys → xs ≡ ys
one_sorted cmp o same items xs ys p s q t =
    one_ascends cmp o same xs ys (ascends-from_sorted cmp xs s) (ascends-from_sorted cmp ys t) (λ z. sum_by-IsPermutation (is_at cmp z) items xs p ∙ sym (sum_by-IsPermutation (is_at cmp z) items ys q))

-- ---- there is one

abbrev pub put : {X : Type 0} → (X → X → Ordering) → X → List X → List X
put cmp x [] = x ∷ []
put cmp x (y ∷ ys) = cond (is_lt (cmp y x)) (y ∷ put cmp x ys) (x ∷ y ∷ ys)

put_after : {X : Type 0} (cmp : X → X → Ordering) → IsStrictWeakOrder (λ a b. is_lt (cmp a b)) → (z x : X) (ys : List X) → Ascends cmp (z ∷ ys)
    → is_lt (cmp x z) ≡ false → Ascends cmp (z ∷ put cmp x ys)
put_after cmp o z x [] h g = (g, tt)
put_after {X} cmp o z x (y ∷ ys) h g = by (is_lt (cmp y x)) refl (λ d. put_after cmp o y x ys h.1 d)
  where
    by : (b : Bool) → is_lt (cmp y x) ≡ b → (is_lt (cmp x y) ≡ false → Ascends cmp (y ∷ put cmp x ys))
        → Ascends cmp (z ∷ cond b (y ∷ put cmp x ys) (x ∷ y ∷ ys))
    by true e rest = (h.0, rest (o.one_way y x e))
    by false e rest = (g, (e, h.1))

put_ascends : {X : Type 0} (cmp : X → X → Ordering) → IsStrictWeakOrder (λ a b. is_lt (cmp a b)) → (x : X) (ys : List X) → Ascends cmp ys → Ascends cmp (put cmp x ys)
put_ascends cmp o x [] h = tt
put_ascends {X} cmp o x (y ∷ ys) h = by (is_lt (cmp y x)) refl
  where
    by : (b : Bool) → is_lt (cmp y x) ≡ b → Ascends cmp (cond b (y ∷ put cmp x ys) (x ∷ y ∷ ys))
    by true e = put_after cmp o y x ys h (o.one_way y x e)
    by false e = (e, h)

put_permutes : {X : Type 0} (cmp : X → X → Ordering) (x : X) (ys : List X) → IsPermutation (x ∷ ys) (put cmp x ys)
put_permutes cmp x [] = IsPermutation-refl (x ∷ [])
put_permutes {X} cmp x (y ∷ ys) = by (is_lt (cmp y x)) (put_permutes cmp x ys)
  where
    by : (b : Bool) → IsPermutation (x ∷ ys) (put cmp x ys) → IsPermutation (x ∷ y ∷ ys) (cond b (y ∷ put cmp x ys) (x ∷ y ∷ ys))
    by true rest =
        IsPermutation-trans (x ∷ y ∷ ys) (y ∷ x ∷ ys) (y ∷ put cmp x ys) (IsPermutation-middle (x ∷ []) y ys)
        (IsPermutation-cons y (x ∷ ys) (put cmp x ys) rest)
    by false rest = IsPermutation-refl (x ∷ y ∷ ys)

abbrev pub in_order : {X : Type 0} → (X → X → Ordering) → List X → List X
in_order cmp [] = []
in_order cmp (x ∷ xs) = put cmp x (in_order cmp xs)

in_order_ascends : {X : Type 0} (cmp : X → X → Ordering) → IsTotalOrder cmp → (xs : List X) → Ascends cmp (in_order cmp xs)
in_order_ascends cmp o [] = tt
in_order_ascends {X} cmp o (x ∷ xs) = put_ascends cmp (ranks_by o (λ (e : X). e)) x (in_order cmp xs) (in_order_ascends cmp o xs)

pub in_order_sorted : {X : Type 0} (cmp : X → X → Ordering) → IsTotalOrder cmp → (xs : List X) → IsSorted cmp (in_order cmp xs)
in_order_sorted cmp o xs = sorted-from_ascends cmp (in_order cmp xs) (in_order_ascends cmp o xs)

pub in_order_permutes : {X : Type 0} (cmp : X → X → Ordering) (xs : List X) → IsPermutation xs (in_order cmp xs)
in_order_permutes cmp [] = IsPermutation-refl []
in_order_permutes cmp (x ∷ xs) =
    IsPermutation-trans (x ∷ xs) (x ∷ in_order cmp xs) (put cmp x (in_order cmp xs))
    (IsPermutation-cons x xs (in_order cmp xs) (in_order_permutes cmp xs)) (put_permutes cmp x (in_order cmp xs))
