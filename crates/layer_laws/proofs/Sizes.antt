-- The objects of a link whose layout is not refused are at most 1,024, and at most 16 MiB together.
use Rattle.std.specs.Prelude.{◌≡◌, ℕ, zero, suc, ◌+◌, ◌<◌, ◌≤◌, Bool, true, List, [], ◌∷◌, ◌++◌, Option, Some, None, map, max, length, get_or, slice_get, sum_by, refl}
use Rattle.std.specs.List.{list_any, enumerate_from, range_with_len, position, position_or_len}
use Rattle.std.specs.Option.{option_map_or}
use Rattle.std.proofs.Common.{ap, sym, ◌∙◌, arith, subst, append_assoc, true≢false, inl, inr}
use Rattle.std.proofs.lemmas.Bool.{cases_lt}
use Rattle.std.proofs.lemmas.List.{append-nil}
use Rattle.std.proofs.lemmas.List.Quantifiers.{position-Some}
use Rattle.std.proofs.lemmas.Option.{get_or_from_slice_get}
use Rattle.std.proofs.lemmas.List.Sums.{sum_by-cons}
use Rattle.std.proofs.Math.Nat.{le-max_left}
use Rattle.lx_types.specs.Addresses.{room}
use Rattle.lx_types.specs.declared.limits.TheConstants.{MAX_OBJECTS}
use Rattle.link_model.specs.declared.limits.TheConstants.{MAX_MEMORY}
use Rattle.link_model.specs.declared.symbols.LaidObject.{LaidObject}
use Rattle.link_model.specs.Link.{Link}
use Rattle.link_model.specs.Parts.{Part}
use Rattle.link_model.specs.Flags.{flags_of}
use Rattle.link_model.specs.Order.{ordered, object_key, same_object, object_heads, object_number}
use Rattle.link_model.specs.Rows.{Row, end_in, rows}
use Rattle.link_model.specs.Layout.{placed_from, first_base, objects}
use Rattle.link_model.specs.LayoutRefusals.{lay_refusal, size_of_rows}
use Rattle.link_model.proofs.Tables.{firsts-apart}
use Rattle.link_model.proofs.Members.{In, any_in, position_is, item_at, in_at, from_map}
use Rattle.link_model.proofs.KeyTests.{in_one_object}
use Rattle.link_model.proofs.RowsStand.{segments_of_rows}
use Rattle.link_model.proofs.RowEnds.{end-here, end-other, sum-more}
use Rattle.link_model.proofs.RowLimits.{size-within, not-too-large}
use Rattle.image_model.proofs.ObjectsThere.{row_stands, row_there, count-objects}
use Rattle.layer_laws.proofs.Lists.{from-firsts}

-- ---- sums over numbers that follow each other

-- Where only one number's value differs, and the numbers are past it.
same_sum : (f g : ℕ → ℕ) (o a n : ℕ) → ((j : ℕ) → (j ≡ o → ⊥) → g j ≡ f j) → o < a → sum_by g (range_with_len a n) ≡ sum_by f (range_with_len a n)
same_sum f g o a zero others past = refl
same_sum f g o a (suc n) others past =
    let rest = same_sum f g o (a + 1) n others (omega (arith, past)) in
    let here = others a (λ e. omega (arith, e, past)) in
    let one = sum_by-cons f a (range_with_len (a + 1) n) in
    let other = sum_by-cons g a (range_with_len (a + 1) n) in
    omega (arith, here, rest, one, other)

range_sum : (f g : ℕ → ℕ) (o a n : ℕ) → ((j : ℕ) → (j ≡ o → ⊥) → g j ≡ f j) → f o ≤ g o → sum_by g (range_with_len a n) + f o ≤ sum_by f (range_with_len a n) + g o
range_sum f g o a zero others more = omega (arith, more)
range_sum f g o a (suc n) others more =
    let one = sum_by-cons f a (range_with_len (a + 1) n) in
    let other = sum_by-cons g a (range_with_len (a + 1) n) in
    elim (cases_lt o a) as (λ s. sum_by g (range_with_len a (suc n)) + f o ≤ sum_by f (range_with_len a (suc n)) + g o) [
      | inl past ↦ let all = same_sum f g o a (suc n) others past in omega (arith, all, more)
      | inr from ↦ elim (cases_lt a o) as (λ s. sum_by g (range_with_len a (suc n)) + f o ≤ sum_by f (range_with_len a (suc n)) + g o) [
        | inl before ↦ let here = others a (λ e. omega (arith, e, before)) in let rest = range_sum f g o (a + 1) n others more in omega (arith, here, rest, one, other)
        | inr to ↦ let same : a ≡ o = omega (arith, from, to) in let rest = same_sum f g o (a + 1) n others (omega (arith, same)) in let fs = ap f same in let gs = ap g same in omega (arith, fs, gs, rest, one, other)
      ]
    ]

-- ---- the ends of so many objects together, row by row

abbrev ends_together : ℕ → List Row → ℕ
ends_together n rs = sum_by (λ o. end_in o rs) (range_with_len 1 n)

one_more : (n : ℕ) (rs : List Row) (r : Row) → ends_together n rs ≤ size_of_rows rs → ends_together n (rs ++ r ∷ []) ≤ size_of_rows (rs ++ r ∷ [])
one_more n rs r within =
    let f : ℕ → ℕ = λ o. end_in o rs in
    let g : ℕ → ℕ = λ o. end_in o (rs ++ r ∷ []) in
    let here : g r.object ≡ max (f r.object) r.end = end-here rs r in
    let longer : f r.object ≤ max (f r.object) r.end = le-max_left (f r.object) r.end in
    let grown = range_sum f g r.object 1 n (λ j ne. end-other j rs r ne) (omega (arith, here, longer)) in
    let all = sum-more rs r in
    omega (arith, grown, all, here, within)

all_more : (n : ℕ) (earlier rs : List Row) → ends_together n earlier ≤ size_of_rows earlier → ends_together n (earlier ++ rs) ≤ size_of_rows (earlier ++ rs)
all_more n earlier [] within = subst (λ (t : List Row). ends_together n t ≤ size_of_rows t) (sym (append-nil earlier)) within
all_more n earlier (r ∷ rs) within =
    subst (λ (t : List Row). ends_together n t ≤ size_of_rows t) (append_assoc earlier (r ∷ []) rs) (all_more n (earlier ++ r ∷ []) rs (one_more n earlier r within))

none_together : (a n : ℕ) → sum_by (λ o. end_in o []) (range_with_len a n) ≡ 0
none_together a zero = refl
none_together a (suc n) =
    let rest = none_together (a + 1) n in
    let one = sum_by-cons (λ (o : ℕ). end_in o []) a (range_with_len (a + 1) n) in
    omega (arith, one, rest)

ends_within : (n : ℕ) (rs : List Row) → ends_together n rs ≤ size_of_rows rs
ends_within n rs = let none = none_together 1 n in all_more n [] rs (omega (arith, none))

-- ---- the sizes of objects

sizes_are : (size : ℕ → ℕ) (flags : Part → ℕ) (base b : ℕ) (hs : List Part) → sum_by (λ (o : LaidObject). o.size) (placed_from base (map (λ q. (size q.0, flags q.1)) (enumerate_from b hs))) ≡ sum_by size (range_with_len b (length hs))
sizes_are size flags base b [] = refl
sizes_are size flags base b (h ∷ hs) =
    let rest = sizes_are size flags (base + room (size b)) (b + 1) hs in
    let first : LaidObject = record { size = size b; base = base; flags = flags h } in
    let one = sum_by-cons (λ (o : LaidObject). o.size) first (placed_from (base + room (size b)) (map (λ q. (size q.0, flags q.1)) (enumerate_from (b + 1) hs))) in
    let other = sum_by-cons size b (range_with_len (b + 1) (length hs)) in
    omega (arith, rest, one, other)

-- All objects are at most 16 MiB long together.
pub sizes-within : (l : Link) → lay_refusal l ≡ None → sum_by (λ o. o.size) (objects l) ≤ MAX_MEMORY
unfolding objects
sizes-within l none =
    let all = sizes_are (λ o. end_in o (rows l)) (flags_of l) (first_base l) 1 (object_heads l) in
    let ends = ends_within (length (object_heads l)) (rows l) in
    let most = size-within (rows l) (not-too-large l none) in
    omega (arith, all, ends, most)

-- ---- how many there are

-- A logical segment's object has a number that a row has.
number_within : (l : Link) (s : Part) → lay_refusal l ≡ None → In s (ordered l) → object_number l s ≤ MAX_OBJECTS
unfolding rows
number_within l s none i =
    let listed : In s (map (λ r. r.segment) (rows l)) = subst (λ (t : List Part). In s t) (sym (segments_of_rows l [] (ordered l))) i in
    let r = from_map (λ (r : Row). r.segment) (rows l) listed in
    let small = (row_there l r.item none r.inside).small in
    let number : r.item.object ≡ object_number l s = (row_stands l r.item r.inside).object ∙ ap (object_number l) r.is in
    omega (arith, small, number)

-- The place of an object's key is that of the object, since no two have one key.
own_place : (l : Link) (k : ℕ) (x : Part) → slice_get (object_heads l) k ≡ Some x → k < length (object_heads l) → object_number l x ≡ k + 1
own_place l k x is below =
    let same : Part → Part → Bool = λ a b. same_object (object_key l a) (object_key l b) in
    let eqv = in_one_object l in
    let heads = object_heads l in
    let any : list_any (same x) heads ≡ true = any_in (same x) (in_at heads k x is) (eqv.refl x) in
    let at : position (same x) heads ≡ Some (position_or_len (same x) heads) = position_is (same x) heads any in
    let p = position_or_len (same x) heads in
    let there_is = position-Some (same x) heads p x at in
    let item : get_or heads k x ≡ x = get_or_from_slice_get heads k x x is in
    let number : object_number l x ≡ p + 1 = ap (λ (o : Option ℕ). option_map_or (λ n. n + 1) o 0) at in
    elim (cases_lt p k) as (λ s. object_number l x ≡ k + 1) [
      | inl before ↦ absurd (true≢false (sym there_is.1 ∙ eqv.symm x (get_or heads p x) ∙ ap (same (get_or heads p x)) (sym item) ∙ firsts-apart same (ordered l) p k x before below))
      | inr from ↦ elim (cases_lt k p) as (λ s. object_number l x ≡ k + 1) [
        | inl past ↦ absurd (true≢false (sym (eqv.refl x) ∙ ap (same x) (sym item) ∙ there_is.2 k past))
        | inr to ↦ omega (arith, number, from, to)
      ]
    ]

heads_within : (l : Link) (n : ℕ) → lay_refusal l ≡ None → length (object_heads l) ≡ n → n ≤ MAX_OBJECTS
heads_within l zero none count = omega arith
heads_within l (suc k) none count =
    let last = item_at (object_heads l) k (omega (arith, count)) in
    let inside = from-firsts (λ a b. same_object (object_key l a) (object_key l b)) (ordered l) (in_at (object_heads l) k last.item last.is) in
    let within = number_within l last.item none inside in
    let number = own_place l k last.item last.is (omega (arith, count)) in
    omega (arith, within, number)

-- There are at most 1,024 objects.
pub few-objects : (l : Link) → lay_refusal l ≡ None → length (objects l) ≤ MAX_OBJECTS
few-objects l none =
    let count = count-objects l in let few = heads_within l (length (object_heads l)) none refl in omega (arith, count, few)
