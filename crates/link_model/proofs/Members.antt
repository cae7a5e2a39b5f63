-- What is in a list: by tests, and through `map`, `filter`, `flat_map` and `++`.
use Rattle.std.specs.Prelude.{◌≡◌, ◌≢◌, ℕ, zero, suc, ◌+◌, ◌<◌, Bool, true, false, cond, not, ◌||◌, List, [], ◌∷◌, ◌++◌, Option, Some, None, map, length, filter, slice_get, is_some, IsSome, refl}
use Rattle.std.specs.List.{find, list_any, flat_map, enumerate_from, position, position_or_len, All, AllByRecursion, Contains}
use Rattle.std.specs.Option.{IsSomeAnd}
use Rattle.std.proofs.Common.{ap, sym, ◌∙◌, arith, true≢false, subst}
use Rattle.std.proofs.Common.{inl, inr, ◌⊎◌}
use Rattle.std.proofs.Math.Nat.{add-zero}
use Rattle.std.proofs.Math.ListN.{get_or}
use Rattle.std.proofs.lemmas.Bool.{lt-ltb, or_right}
use Rattle.std.proofs.lemmas.List.Elements.{recursion_from_All}
use Rattle.std.proofs.lemmas.Option.{same_Some}
use Rattle.obj_types.specs.Items.{item}

pub data In {X : Type 0} (x : X) : List X → Type 0 where
  here : {xs : List X} → In x (x ∷ xs)
  there : {y : X} {xs : List X} → In x xs → In x (y ∷ xs)

pub in_left : {X : Type 0} {x : X} {xs : List X} (ys : List X) → In x xs → In x (xs ++ ys)
in_left ys here = here
in_left ys (there i) = there (in_left ys i)

pub in_right : {X : Type 0} {x : X} (xs : List X) {ys : List X} → In x ys → In x (xs ++ ys)
in_right [] i = i
in_right (y ∷ xs) i = there (in_right xs i)

pub in_map : {X Y : Type 0} (f : X → Y) {x : X} {xs : List X} → In x xs → In (f x) (map f xs)
in_map f here = here
in_map f (there i) = there (in_map f i)

in_kept : {X : Type 0} (x : X) (xs : List X) (b : Bool) → b ≡ true → In x (cond b (x ∷ xs) xs)
in_kept x xs true e = here
in_kept x xs false e = absurd (true≢false (sym e))

in_or : {X : Type 0} (y : X) {x : X} {xs : List X} (b : Bool) → In x xs → In x (cond b (y ∷ xs) xs)
in_or y true i = there i
in_or y false i = i

pub in_filter : {X : Type 0} (p : X → Bool) {x : X} {xs : List X} → In x xs → p x ≡ true → In x (filter p xs)
in_filter p {x = x} {xs = y ∷ xs} here e = in_kept x (filter p xs) (p x) e
in_filter p {xs = y ∷ xs} (there i) e = in_or y (p y) (in_filter p i e)
in_filter p {xs = []} i e = elim i [ ]

pub in_flat_map : {X Y : Type 0} (f : X → List Y) {x : X} {xs : List X} {y : Y} → In x xs → In y (f x) → In y (flat_map f xs)
in_flat_map f {xs = []} i j = elim i [ ]
in_flat_map f {xs = x ∷ xs} here j = in_left (flat_map f xs) j
in_flat_map f {xs = z ∷ xs} (there i) j = in_right (f z) (in_flat_map f i j)

-- ---- by tests

pub any_in : {X : Type 0} (test : X → Bool) {x : X} {xs : List X} → In x xs → test x ≡ true → list_any test xs ≡ true
any_in test {xs = []} i e = elim i [ ]
any_in test {xs = x ∷ xs} here e = ap (λ (b : Bool). b || list_any test xs) e
any_in test {xs = y ∷ xs} (there i) e = or_right (test y) (list_any test xs) (any_in test i e)

-- The item that a test passes.
pub record Found {X : Type 0} (test : X → Bool) (xs : List X) : Type 0 where
  pub item : X
  pub inside : In item xs
  pub passes : test item ≡ true

found_later : {X : Type 0} (test : X → Bool) (x : X) (xs : List X) → Found test xs → Found test (x ∷ xs)
found_later test x xs f = record { item = f.item; inside = there f.inside; passes = f.passes }

found_by : {X : Type 0} (test : X → Bool) (x : X) (xs : List X) (b : Bool) → test x ≡ b → (b || list_any test xs) ≡ true → (list_any test xs ≡ true → Found test xs) → Found test (x ∷ xs)
found_by test x xs true is e rest = record { item = x; inside = here; passes = is }
found_by test x xs false is e rest = found_later test x xs (rest e)

pub found : {X : Type 0} (test : X → Bool) (xs : List X) → list_any test xs ≡ true → Found test xs
found test [] e = absurd (true≢false (sym e))
found test (x ∷ xs) e = found_by test x xs (test x) refl e (found test xs)

-- What `find` gives passes, is in the list, and is there where some item passes.
pub record FoundAs {X : Type 0} (test : X → Bool) (xs : List X) (x : X) : Type 0 where
  pub inside : In x xs
  pub passes : test x ≡ true

found_as_by : {X : Type 0} (test : X → Bool) (y : X) (xs : List X) (x : X) (b : Bool) → test y ≡ b → cond b (Some y) (find test xs) ≡ Some x → (find test xs ≡ Some x → FoundAs test xs x) → FoundAs test (y ∷ xs) x
found_as_by test y xs x true is e rest =
    let same : y ≡ x = same_Some y x e in
    subst (λ z. FoundAs test (y ∷ xs) z) same (record { inside = here; passes = is })
found_as_by test y xs x false is e rest =
    let r = rest e in record { inside = there r.inside; passes = r.passes }

pub found_as : {X : Type 0} (test : X → Bool) (xs : List X) (x : X) → find test xs ≡ Some x → FoundAs test xs x
found_as test [] x e = absurd (true≢false (sym (ap is_some e)))
found_as test (y ∷ xs) x e = found_as_by test y xs x (test y) refl e (found_as test xs x)

pub record Finds {X : Type 0} (test : X → Bool) (xs : List X) : Type 0 where
  pub item : X
  pub is : find test xs ≡ Some item

finds_by : {X : Type 0} (test : X → Bool) (x : X) (xs : List X) (b : Bool) → test x ≡ b → (b || list_any test xs) ≡ true → (list_any test xs ≡ true → Finds test xs) → Finds test (x ∷ xs)
finds_by test x xs true is e rest = record { item = x; is = ap (λ (c : Bool). cond c (Some x) (find test xs)) is }
finds_by test x xs false is e rest =
    let r = rest e in record { item = r.item; is = ap (λ (c : Bool). cond c (Some x) (find test xs)) is ∙ r.is }

pub finds : {X : Type 0} (test : X → Bool) (xs : List X) → list_any test xs ≡ true → Finds test xs
finds test [] e = absurd (true≢false (sym e))
finds test (x ∷ xs) e = finds_by test x xs (test x) refl e (finds test xs)

-- ---- places

placed_by : {X : Type 0} (test : X → Bool) (xs : List X) (b : Bool) → (b || list_any test xs) ≡ true →
    (list_any test xs ≡ true → position_or_len test xs < length xs) → cond (not b) (1 + position_or_len test xs) 0 < suc (length xs)
placed_by test xs true e rest = omega arith
placed_by test xs false e rest = let h = rest e in omega (arith, h)

pub placed : {X : Type 0} (test : X → Bool) (xs : List X) → list_any test xs ≡ true → position_or_len test xs < length xs
placed test [] e = absurd (true≢false (sym e))
placed test (x ∷ xs) e = placed_by test xs (test x) e (placed test xs)

pub position_is : {X : Type 0} (test : X → Bool) (xs : List X) → list_any test xs ≡ true → position test xs ≡ Some (position_or_len test xs)
position_is test xs e =
    ap (λ (c : Bool). cond c (Some (position_or_len test xs)) None) (lt-ltb (position_or_len test xs) (length xs) (placed test xs e))

pub record ItemAt {X : Type 0} (xs : List X) (k : ℕ) : Type 0 where
  pub item : X
  pub is : slice_get xs k ≡ Some item

pub item_at : {X : Type 0} (xs : List X) (k : ℕ) → k < length xs → ItemAt xs k
item_at [] k h = absurd (omega (arith, h))
item_at (x ∷ xs) zero h = record { item = x; is = refl }
item_at (x ∷ xs) (suc k) h = let r = item_at xs k (omega (arith, h)) in record { item = r.item; is = r.is }

pub in_at : {X : Type 0} (xs : List X) (k : ℕ) (x : X) → slice_get xs k ≡ Some x → In x xs
in_at [] k x e = absurd (true≢false (sym (ap is_some e)))
in_at (y ∷ xs) zero x e = subst (λ z. In z (y ∷ xs)) (same_Some y x e) here
in_at (y ∷ xs) (suc k) x e = there (in_at xs k x e)

-- ---- from where an item is

in_contained_by : {X : Type 0} (xs : List X) (k : ℕ) (x : X) → k < length xs → get_or xs k x ≡ x → In x xs
in_contained_by [] k x h e = absurd (omega (arith, h))
in_contained_by (y ∷ xs) zero x h e = subst (λ z. In z (y ∷ xs)) e here
in_contained_by (y ∷ xs) (suc k) x h e = there (in_contained_by xs k x (omega (arith, h)) e)

pub not_empty : {X : Type 0} (xs : List X) → xs ≢ [] → 0 < length xs
not_empty [] some = absurd (some refl)
not_empty (x ∷ xs) some = omega arith

-- An item of a list is at its place in a longer one.
pub at_left : {X : Type 0} (xs ys : List X) (k : ℕ) (x : X) → slice_get xs k ≡ Some x → slice_get (xs ++ ys) k ≡ Some x
at_left [] ys k x e = absurd (cc)
at_left (z ∷ xs) ys zero x e = e
at_left (z ∷ xs) ys (suc k) x e = at_left xs ys k x e

pub in_item : {X : Type 0} (xs : List X) (n : ℕ) (x : X) → item xs n ≡ Some x → In x xs
in_item xs zero x e = cc
in_item xs (suc n) x e = in_at xs n x e

pub in_contained : {X : Type 0} (xs : List X) (x : X) → Contains xs x → In x xs
in_contained xs x c = in_contained_by xs c.0 x c.1 c.2

all_by : {X : Type 0} (P : X → Type 0) {x : X} {xs : List X} → AllByRecursion P xs → In x xs → P x
all_by P {xs = []} h i = elim i [ ]
all_by P {xs = y ∷ xs} h here = h.0
all_by P {xs = y ∷ xs} h (there i) = all_by P h.1 i

pub each_in : {X : Type 0} (P : X → Type 0) {x : X} (xs : List X) → AllByRecursion P xs → In x xs → P x
each_in P xs h i = all_by P h i

pub all_in : {X : Type 0} (P : X → Type 0) {x : X} (xs : List X) → All P xs → In x xs → P x
all_in P xs h i = all_by P (recursion_from_All P xs h) i

pub in_either : {X : Type 0} {x : X} (xs ys : List X) → In x (xs ++ ys) → In x xs ⊎ In x ys
in_either [] ys i = inr i
in_either (z ∷ xs) ys here = inl here
in_either {X} {x} (z ∷ xs) ys (there i) = elim (in_either xs ys i) as (λ s. In x (z ∷ xs) ⊎ In x ys) [ inl j ↦ inl (there j) | inr j ↦ inr j ]

pub record Mapped {X Y : Type 0} (f : X → Y) (xs : List X) (y : Y) : Type 0 where
  pub item : X
  pub inside : In item xs
  pub is : f item ≡ y

pub from_map : {X Y : Type 0} (f : X → Y) (xs : List X) {y : Y} → In y (map f xs) → Mapped f xs y
from_map f [] i = elim i [ ]
from_map f (x ∷ xs) here = record { item = x; inside = here; is = refl }
from_map f (x ∷ xs) (there i) = let r = from_map f xs i in record { item = r.item; inside = there r.inside; is = r.is }

from_filter_by : {X : Type 0} (x : X) (xs ys : List X) (b : Bool) {y : X} → In y (cond b (x ∷ ys) ys) → (In y ys → In y xs) → In y (x ∷ xs)
from_filter_by x xs ys true here rest = here
from_filter_by x xs ys true (there i) rest = there (rest i)
from_filter_by x xs ys false i rest = there (rest i)

pub from_filter : {X : Type 0} (keep : X → Bool) (xs : List X) {y : X} → In y (filter keep xs) → In y xs
from_filter keep [] i = i
from_filter keep (x ∷ xs) i = from_filter_by x xs (filter keep xs) (keep x) i (λ j. from_filter keep xs j)

pub record FlatMapped {X Y : Type 0} (f : X → List Y) (xs : List X) (y : Y) : Type 0 where
  pub item : X
  pub inside : In item xs
  pub gives : In y (f item)

pub from_flat_map : {X Y : Type 0} (f : X → List Y) (xs : List X) {y : Y} → In y (flat_map f xs) → FlatMapped f xs y
from_flat_map f [] i = elim i [ ]
from_flat_map {X} {Y} f (x ∷ xs) {y} i = elim (in_either (f x) (flat_map f xs) i) as (λ s. FlatMapped f (x ∷ xs) y) [ inl j ↦ record { item = x; inside = here; gives = j } | inr j ↦ let r = from_flat_map f xs j in record { item = r.item; inside = there r.inside; gives = r.gives } ]

-- An item of a numbered list, with its place.
pub record Numbered {X : Type 0} (b : ℕ) (xs : List X) (q : ℕ × X) : Type 0 where
  pub place : ℕ
  pub number : q.0 ≡ b + place
  pub is : slice_get xs place ≡ Some q.1

pub from_numbered : {X : Type 0} (b : ℕ) (xs : List X) {q : ℕ × X} → In q (enumerate_from b xs) → Numbered b xs q
from_numbered b [] i = elim i [ ]
from_numbered b (x ∷ xs) here = record { place = 0; number = sym (add-zero b); is = refl }
from_numbered b (x ∷ xs) (there i) = let r = from_numbered (b + 1) xs i in let n = r.number in record { place = suc r.place; number = omega (arith, n); is = r.is }

-- ---- values that there are

pub record Value {X : Type 0} (o : Option X) (P : X → Type 0) : Type 0 where
  pub item : X
  pub is : o ≡ Some item
  pub holds : P item

pub value_of : {X : Type 0} (o : Option X) (P : X → Type 0) → IsSomeAnd o P → Value o P
value_of None P h = absurd h
value_of (Some x) P h = record { item = x; is = refl; holds = h }

pub record ItemOf {X : Type 0} (o : Option X) : Type 0 where
  pub item : X
  pub is : o ≡ Some item

pub value_is : {X : Type 0} (o : Option X) → IsSome o → ItemOf o
value_is None h = absurd (true≢false (sym h))
value_is (Some x) h = record { item = x; is = refl }
