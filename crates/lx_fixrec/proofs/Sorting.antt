-- Sources that share no byte have one order by offset.
use Rattle.std.proofs.Common.{◌≡◌, ℕ, suc, ◌+◌, ◌<◌, Bool, true, false, cond, List, [], ◌∷◌, length, get_or, ℤ, refl, sym, subst, ap, ◌∙◌, arith, inl, inr, ◌⊎◌}
use Rattle.std.specs.Prelude.{All, AllPairs, int_le, int_lt}
use Rattle.std.specs.Ordering.{int_eq, int_cmp, is_lt}
use Rattle.std.specs.declared.cmp.Ordering.TheVariants.{Less, Equal, Greater}
use Rattle.std.specs.List.{AllByRecursion as Each, IsDistinct}
use Rattle.std.specs.List.Sorted.{IsPermutation, IsSortedByKey}
use Rattle.std.proofs.lemmas.Int.{ints}
use Rattle.std.proofs.lemmas.List.Elements.{All-from_recursion, All-head, All-tail}
use Rattle.std.proofs.lemmas.List.Sorted.{All-permutation, IsPermutation-sym, sorted_far, ranks_by}
use Rattle.std.proofs.lemmas.Cmp.{int_cmp_total}
use Rattle.std.proofs.lemmas.Map.Keys.{IsDistinct-IsPermutation}
use Rattle.lx_types.specs.declared.fix.Fix.{Fix}
use Rattle.lx_types.specs.declared.fix.Source.{Source}
use Rattle.lx_types.specs.declared.fix.Source.TheVariants.{Byte, Sel, Far16, Off16, Far32, Off32, Self32}
use Rattle.lx_model.specs.Sources.{source_size}
use Rattle.lx_model.specs.JoinedRecords.{inserted, by_offset}
use Rattle.lx_fixrec.specs.Writable.{AreApart}

-- ---- offsets

abbrev pub Below : Fix → Fix → Type 0
Below f g = int_lt f.offset g.offset ≡ true

not_itself : (z : ℤ) → int_lt z z ≡ true → ⊥
not_itself z h = grind (arith, ints)

not_both : (a b : ℤ) → int_lt a b ≡ true → int_lt b a ≡ true → ⊥
not_both a b h k = grind (arith, ints)

below_then : (a b c : ℤ) → int_lt a b ≡ true → int_lt b c ≡ true → int_lt a c ≡ true
below_then a b c h k = grind (arith, ints)

not_up_to : (a b : ℤ) → int_le a b ≡ false → int_lt b a ≡ true
not_up_to a b h = grind (arith, ints)

up_to : (a b : ℤ) → int_le a b ≡ true → int_eq a b ≡ false → int_lt a b ≡ true
up_to a b h k = grind (arith, ints)

-- ---- members

abbrev pub Has : List Fix → Fix → Type 0
Has [] x = ⊥
Has (y ∷ ys) x = (x ≡ y) ⊎ Has ys x

each_has : (P : Fix → Type 0) (x : Fix) (ys : List Fix) → Each P ys → Has ys x → P x
each_has P x [] each h = absurd h
each_has P x (y ∷ ys) each (inl is) = subst P (sym is) each.0
each_has P x (y ∷ ys) each (inr h) = each_has P x ys each.1 h

weaker : (P Q : Fix → Type 0) → ((x : Fix) → P x → Q x) → (xs : List Fix) → Each P xs → Each Q xs
weaker P Q f [] each = tt
weaker P Q f (x ∷ xs) each = (f x each.0, weaker P Q f xs each.1)

pub have_all : (xs : List Fix) → Each (Has xs) xs
have_all [] = tt
have_all (x ∷ xs) = (inl refl, weaker (Has xs) (Has (x ∷ xs)) (λ y h. inr h) xs (have_all xs))

-- ---- lists that rise

abbrev pub Rising : List Fix → Type 0
Rising [] = Unit {0}
Rising (f ∷ fs) = Each (Below f) fs × Rising fs

-- the members after the first ones
rest_has : (y : Fix) (ys xs : List Fix) → Each (Below y) xs → Each (Has (y ∷ ys)) xs → Each (Has ys) xs
rest_has y ys [] below has = tt
rest_has y ys (x ∷ xs) below has = (by has.0, rest_has y ys xs below.1 has.1)
  where
    by : Has (y ∷ ys) x → Has ys x
    by (inl is) = absurd (not_itself x.offset (subst (λ (f : Fix). int_lt f.offset x.offset ≡ true) (sym is) below.0))
    by (inr h) = h

firsts_equal : (x y : Fix) (xs ys : List Fix) → Each (Below x) xs → Each (Below y) ys → Has (y ∷ ys) x → Has (x ∷ xs) y → x ≡ y
firsts_equal x y xs ys above_x above_y (inl is) other = is
firsts_equal x y xs ys above_x above_y (inr h) (inl is) = sym is
firsts_equal x y xs ys above_x above_y (inr h) (inr k) = absurd (not_both y.offset x.offset (each_has (Below y) x ys above_y h) (each_has (Below x) y xs above_x k))

-- rising lists with the same members are equal
pub rising_once : (xs ys : List Fix) → Rising xs → Rising ys → Each (Has ys) xs → Each (Has xs) ys → xs ≡ ys
rising_once [] [] rising also there here = refl
rising_once [] (y ∷ ys) rising also there here = absurd here.0
rising_once (x ∷ xs) [] rising also there here = absurd there.0
rising_once (x ∷ xs) (y ∷ ys) rising also there here =
    let is : x ≡ y = firsts_equal x y xs ys rising.0 also.0 there.0 here.0 in
    let first : Each (Has ys) xs = rest_has y ys xs (subst (λ (f : Fix). Each (Below f) xs) is rising.0) there.1 in
    let second : Each (Has xs) ys = rest_has x xs ys (subst (λ (f : Fix). Each (Below f) ys) (sym is) also.0) here.1 in
    ap (λ (f : Fix). f ∷ xs) is ∙ ap (λ (fs : List Fix). y ∷ fs) (rising_once xs ys rising.1 also.1 first second)

-- ---- the order by offset

each_inserted : (P : Fix → Type 0) (f : Fix) (gs : List Fix) → P f → Each P gs → Each P (inserted f gs)
each_inserted P f [] one each = (one, tt)
each_inserted P f (g ∷ gs) one each = by (int_le f.offset g.offset) (each_inserted P f gs one each.1)
  where
    by : (b : Bool) → Each P (inserted f gs) → Each P (cond b (f ∷ g ∷ gs) (g ∷ inserted f gs))
    by true rest = (one, each)
    by false rest = (each.0, rest)

has_itself : (f : Fix) (gs : List Fix) → Has (inserted f gs) f
has_itself f [] = inl refl
has_itself f (g ∷ gs) = by (int_le f.offset g.offset) (has_itself f gs)
  where
    by : (b : Bool) → Has (inserted f gs) f → Has (cond b (f ∷ g ∷ gs) (g ∷ inserted f gs)) f
    by true rest = inl refl
    by false rest = inr rest

has_others : (f x : Fix) (gs : List Fix) → Has gs x → Has (inserted f gs) x
has_others f x [] h = absurd h
has_others f x (g ∷ gs) h = by (int_le f.offset g.offset) h (has_others f x gs)
  where
    by : (b : Bool) → Has (g ∷ gs) x → (Has gs x → Has (inserted f gs) x) → Has (cond b (f ∷ g ∷ gs) (g ∷ inserted f gs)) x
    by true k rest = inr k
    by false (inl is) rest = inl is
    by false (inr k) rest = inr (rest k)

pub ordered_has : (fs : List Fix) → Each (Has (by_offset fs)) fs
ordered_has [] = tt
ordered_has (f ∷ fs) = (has_itself f (by_offset fs), weaker (Has (by_offset fs)) (Has (inserted f (by_offset fs))) (λ x h. has_others f x (by_offset fs) h) fs (ordered_has fs))

pub each_ordered : (P : Fix → Type 0) (fs : List Fix) → Each P fs → Each P (by_offset fs)
each_ordered P [] each = tt
each_ordered P (f ∷ fs) each = each_inserted P f (by_offset fs) each.0 (each_ordered P fs each.1)

abbrev pub same_offset : Fix → Fix → Bool
same_offset f g = int_eq f.offset g.offset

inserted_rises : (f : Fix) (gs : List Fix) → Rising gs → Each (λ g. same_offset f g ≡ false) gs → Rising (inserted f gs)
inserted_rises f [] rising apart = (tt, tt)
inserted_rises f (g ∷ gs) rising apart = by (int_le f.offset g.offset) refl (inserted_rises f gs rising.1 apart.1)
  where
    by : (b : Bool) → int_le f.offset g.offset ≡ b → Rising (inserted f gs) → Rising (cond b (f ∷ g ∷ gs) (g ∷ inserted f gs))
    by true is rest =
        let below : Below f g = up_to f.offset g.offset is apart.0 in
        ((below, weaker (Below g) (Below f) (λ x h. below_then f.offset g.offset x.offset below h) gs rising.0), rising)
    by false is rest = (each_inserted (Below g) f gs (not_up_to f.offset g.offset is) rising.0, rest)

ordered_rises : (fs : List Fix) → IsDistinct same_offset fs → Rising (by_offset fs)
unfolding IsDistinct
ordered_rises [] apart = tt
ordered_rises (f ∷ fs) apart = inserted_rises f (by_offset fs) (ordered_rises fs apart.1) (each_ordered (λ g. same_offset f g ≡ false) fs apart.0)

-- ---- pairs

pairs_first : {X : Type 0} (R : X → X → Type 0) (x : X) (xs : List X) → AllPairs R (x ∷ xs) → All (R x) xs
pairs_first R x xs pairs k d lt = let e : k + 1 ≡ suc k = omega arith in subst (λ (n : ℕ). R x (get_or (x ∷ xs) n d)) e (pairs 0 (k + 1) d (omega arith) (let e2 : length (x ∷ xs) ≡ suc (length xs) = refl in omega (arith, lt, e2)))

pairs_rest : {X : Type 0} (R : X → X → Type 0) (x : X) (xs : List X) → AllPairs R (x ∷ xs) → AllPairs R xs
pairs_rest R x xs pairs i j d before lt =
    let e : i + 1 ≡ suc i = omega arith in
    let f : j + 1 ≡ suc j = omega arith in
    let there = pairs (i + 1) (j + 1) d (omega (arith, before)) (let e2 : length (x ∷ xs) ≡ suc (length xs) = refl in omega (arith, lt, e2)) in
    subst (λ (n : ℕ). R (get_or (x ∷ xs) (suc i) d) (get_or (x ∷ xs) n d)) f (subst (λ (n : ℕ). R (get_or (x ∷ xs) n d) (get_or (x ∷ xs) (j + 1) d)) e there)

pub to_each : {X : Type 0} (P : X → Type 0) (xs : List X) → All P xs → Each P xs
to_each P [] all = tt
to_each P (x ∷ xs) all = (All-head P x xs all, to_each P xs (All-tail P x xs all))

size_positive : (s : Source) → 0 < source_size s
size_positive Byte = omega arith
size_positive Sel = omega arith
size_positive Far16 = omega arith
size_positive Off16 = omega arith
size_positive Far32 = omega arith
size_positive Off32 = omega arith
size_positive Self32 = omega arith

apart_differ : (f g : Fix) → AreApart f g → same_offset f g ≡ false
apart_differ f g (inl h) = let some = size_positive f.source in grind (arith, ints)
apart_differ f g (inr h) = let some = size_positive g.source in grind (arith, ints)

apart_distinct : (fs : List Fix) → AllPairs AreApart fs → IsDistinct same_offset fs
unfolding IsDistinct
apart_distinct [] pairs = tt
apart_distinct (f ∷ fs) pairs = (weaker (AreApart f) (λ g. same_offset f g ≡ false) (λ g h. apart_differ f g h) fs (to_each (AreApart f) fs (pairs_first AreApart f fs pairs)), apart_distinct fs (pairs_rest AreApart f fs pairs))

-- ---- a sort by offset

abbrev pub IsSorted : List Fix → Type 0
IsSorted fs = AllPairs (λ f g. int_lt g.offset f.offset ≡ false) fs

not_under : (a b : ℤ) → int_lt b a ≡ false → int_eq a b ≡ false → int_lt a b ≡ true
not_under a b h k = grind (arith, ints)

zip_below : (f : Fix) (gs : List Fix) → Each (λ g. int_lt g.offset f.offset ≡ false) gs → Each (λ g. same_offset f g ≡ false) gs → Each (Below f) gs
zip_below f [] up apart = tt
zip_below f (g ∷ gs) up apart = (not_under f.offset g.offset up.0 apart.0, zip_below f gs up.1 apart.1)

sorted_rises : (fs : List Fix) → IsSorted fs → IsDistinct same_offset fs → Rising fs
unfolding IsDistinct
sorted_rises [] up apart = tt
sorted_rises (f ∷ fs) up apart =
    (zip_below f fs (to_each (λ g. int_lt g.offset f.offset ≡ false) fs (pairs_first (λ f g. int_lt g.offset f.offset ≡ false) f fs up)) apart.0, sorted_rises fs (pairs_rest (λ f g. int_lt g.offset f.offset ≡ false) f fs up) apart.1)

eq_flips : (a b : ℤ) → int_eq a b ≡ int_eq b a
eq_flips a b = grind (arith, ints)

pub sorted_is : (fs s : List Fix) → AllPairs AreApart fs → IsPermutation fs s → IsSorted s → s ≡ by_offset fs
sorted_is fs s pairs moved up =
    let apart = apart_distinct fs pairs in
    let also : IsDistinct same_offset s = IsDistinct-IsPermutation same_offset (λ f g. eq_flips f.offset g.offset) fs s moved apart in
    let there : Each (Has (by_offset fs)) s = to_each (Has (by_offset fs)) s (All-permutation (Has (by_offset fs)) fs s moved (All-from_recursion (Has (by_offset fs)) fs (ordered_has fs))) in
    let given : Each (Has s) fs = to_each (Has s) fs (All-permutation (Has s) s fs (IsPermutation-sym fs s moved) (All-from_recursion (Has s) s (have_all s))) in
    rising_once s (by_offset fs) (sorted_rises s up also) (ordered_rises fs apart) there (each_ordered (Has s) fs given)

is_lt_false : (a b : ℤ) → is_lt (int_cmp a b) ≡ false → int_lt a b ≡ false
is_lt_false a b h = by (int_lt a b) refl
  where
    by : (t : Bool) → int_lt a b ≡ t → int_lt a b ≡ false
    by false e = e
    by true e = absurd (let h2 : is_lt (cond true Less (cond (int_lt b a) Greater Equal)) ≡ false = subst (λ (t : Bool). is_lt (cond t Less (cond (int_lt b a) Greater Equal)) ≡ false) e h in cc)

pub far : (s : List Fix) → IsSortedByKey (λ (f : Fix). f.offset) int_cmp s → IsSorted s
far s up i j d before lt = is_lt_false (get_or s j d).offset (get_or s i d).offset (sorted_far (λ (f g : Fix). is_lt (int_cmp f.offset g.offset)) (ranks_by int_cmp_total (λ (f : Fix). f.offset)) s up i j d (omega (arith, before)) lt)
