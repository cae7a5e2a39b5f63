-- The record that a source begins, and the offsets that it lists.
use Rattle.std.proofs.Common.{◌≡◌, ℕ, zero, suc, ◌+◌, ◌-◌, ◌<◌, ◌≤◌, ◌%◌, ◌==◌, Bool, true, false, cond, List, [], ◌∷◌, ◌++◌, length, take, drop, get_or, map, ℤ, Some, slice_get, refl, sym, subst, ap, ◌∙◌, arith, append_assoc, length-take, length-append}
use Rattle.std.proofs.lemmas.Bool.Decides.{nat_tests}
use Rattle.std.specs.Prelude.{All, filter, Result, Ok, Err, IfOk}
use Rattle.std.proofs.lemmas.Option.{get_or_from_slice_get}
use Rattle.std.proofs.lemmas.List.{drop_all, length-map}
use Rattle.std.proofs.lemmas.List.Elements.{All-nil, All-take}
use Rattle.lx_types.specs.declared.fix.Fix.{Fix}
use Rattle.lx_model.specs.RecordSpelling.{record_spelling, OffsetFits}
use Rattle.lx_model.specs.JoinedRecords.{crosses, joins, record_of}
use Rattle.lx_fixrec.specs.Lists.{shared_of}
use Rattle.lx_fixrec.specs.Links.{HeadPasses, IsNext, listed_offsets, joined_before}
use Rattle.lx_fixrec.specs.Writable.{IsWritable}
use Rattle.lx_fixrec.specs.Writes.{record_with, begun_by}
use Rattle.lx_fixrec.proofs.Filters.{passed}
use Rattle.lx_fixrec.proofs.Grouping.{joined_offsets, joined_none, record_is, take_map}
use Rattle.lx_fixrec.proofs.Others.{offsets_fit}
use Rattle.lx_fixrec.proofs.Linked.{front}
use Rattle.lx_fixrec.proofs.Counts.{test_alike}

-- ---- the offsets that a record lists

-- A source's offsets so far, and those that come: the next one stands at a place.
pub record Gathered (s : List Fix) (f : Fix) (place next : ℕ) (offsets : List ℤ) : Type 0 where
  pub few : length offsets ≤ 254
  pub are : offsets ++ map (λ g. g.offset) (take (254 - length offsets) (filter (joins f) (drop next s))) ≡ listed_offsets f (drop (place + 1) s)
  pub head : HeadPasses (joins f) (drop next s)

pub begun_list : (s : List Fix) (f : Fix) (place next : ℕ) → IsNext s f place next → Gathered s f place next []
begun_list s f place next is = record {
  few = omega arith;
  are = ap (λ (fs : List Fix). map (λ g. g.offset) (take 254 fs)) (sym is.leads.same);
  head = is.leads.head;
}

pub one_more : (s : List Fix) (f g : Fix) (place next after : ℕ) (offsets : List ℤ) → Gathered s f place next offsets → slice_get s next ≡ Some g → length offsets + 1 < 255 → IsNext s g next after →
    Gathered s f place after (offsets ++ g.offset ∷ [])
one_more s f g place next after offsets so_far at room is =
    let stands : drop next s ≡ g ∷ drop (next + 1) s = front s next g at in
    let joined : joins f g ≡ true = subst (HeadPasses (joins f)) stands so_far.head in
    let test : joins f ≡ joins g = test_alike f g joined in
    let rest : filter (joins f) (drop next s) ≡ g ∷ filter (joins f) (drop after s) =
    ap (filter (joins f)) stands ∙ passed (joins f) g (drop (next + 1) s) joined
    ∙ ap (λ (fs : List Fix). g ∷ fs) (ap (λ (t : Fix → Bool). filter t (drop (next + 1) s)) test ∙ is.leads.same ∙ ap (λ (t : Fix → Bool). filter t (drop after s)) (sym test)) in
    let n = length offsets in
    let long : length (offsets ++ g.offset ∷ []) ≡ n + 1 = length-append offsets (g.offset ∷ []) in
    let left : 254 - n ≡ suc (254 - (n + 1)) = omega arith in
    let taken : map (λ h. h.offset) (take (254 - n) (filter (joins f) (drop next s))) ≡ g.offset ∷ map (λ h. h.offset) (take (254 - (n + 1)) (filter (joins f) (drop after s))) =
    rw (rest, left) refl in
    record {
      few = omega (arith, long);
      are = ap (λ k. (offsets ++ g.offset ∷ []) ++ map (λ h. h.offset) (take (254 - k) (filter (joins f) (drop after s)))) long
          ∙ append_assoc offsets (g.offset ∷ []) (map (λ h. h.offset) (take (254 - (n + 1)) (filter (joins f) (drop after s))))
          ∙ ap (λ (os : List ℤ). offsets ++ os) (sym taken)
          ∙ so_far.are;
      head = subst (λ (t : Fix → Bool). HeadPasses t (drop after s)) (sym test) is.leads.head;
    }

append_none : {X : Type 0} (xs : List X) → xs ++ [] ≡ xs
append_none [] = refl
append_none (x ∷ xs) = ap (λ (ys : List _). x ∷ ys) (append_none xs)

take_none : (n : ℕ) (none : List Fix) → none ≡ [] → take n none ≡ []
take_none zero none is = refl
take_none (suc n) none is = ap (take (suc n)) is

pub all_gathered : (s : List Fix) (f : Fix) (place next : ℕ) (offsets : List ℤ) → Gathered s f place next offsets → length s ≤ next → offsets ≡ listed_offsets f (drop (place + 1) s)
all_gathered s f place next offsets so_far past =
    sym (append_none offsets)
    ∙ ap (λ (fs : List Fix). offsets ++ map (λ g. g.offset) fs) (sym (take_none (254 - length offsets) (filter (joins f) (drop next s)) (ap (filter (joins f)) (drop_all next s past))))
    ∙ so_far.are

pub full : (s : List Fix) (f : Fix) (place next : ℕ) (offsets : List ℤ) → Gathered s f place next offsets → 255 ≤ length offsets + 1 → offsets ≡ listed_offsets f (drop (place + 1) s)
full s f place next offsets so_far many =
    let none : 254 - length offsets ≡ 0 = omega arith in
    sym (append_none offsets) ∙ ap (λ n. offsets ++ map (λ g. g.offset) (take n (filter (joins f) (drop next s)))) (sym none) ∙ so_far.are

-- ---- what is written

pub few_listed : (f : Fix) (fs : List Fix) → length (listed_offsets f fs) < 255
few_listed f fs = let counted = length-map (take 254 (filter (joins f) fs)) (λ g. g.offset) in let taken = length-take 254 (filter (joins f) fs) in omega (arith, counted, taken)

pub listed_fit : (f : Fix) (fs : List Fix) → All IsWritable fs → All (OffsetFits f.source) (listed_offsets f fs)
listed_fit f fs each = by (crosses f) refl
  where
    by : (b : Bool) → crosses f ≡ b → All (OffsetFits f.source) (listed_offsets f fs)
    by true crossing = subst (λ (gs : List Fix). All (OffsetFits f.source) (map (λ g. g.offset) (take 254 gs))) (sym (joined_none f fs crossing)) (All-nil (OffsetFits f.source))
    by false within =
        subst (All (OffsetFits f.source)) (sym (take_map (λ g. g.offset) 254 (filter (joins f) fs) ∙ ap (take 254) (joined_offsets f fs within)))
        (All-take (OffsetFits f.source) 254 _ (offsets_fit f.source (shared_of f) fs refl each))

pub is_begun : (s : List Fix) (f : Fix) (place : ℕ) → slice_get s place ≡ Some f → joined_before s f place % 255 ≡ 0 →
    record_spelling (record_with f (listed_offsets f (drop (place + 1) s))) ≡ begun_by (take place s) (drop place s)
is_begun s f place at first =
    let others = take 254 (filter (joins f) (drop (place + 1) s)) in
    let one = record_spelling (record_of (record { first = f; others = others })) in
    let test : (joined_before s f place % 255 == 0) ≡ true = ap (λ n. n == 0) first in
    ap record_spelling (sym (record_is f others))
    ∙ sym (ap (λ b. cond b one []) test)
    ∙ sym (ap (begun_by (take place s)) (front s place f at))

is_not_zero : (n : ℕ) → (n ≡ 0 → ⊥) → (n == 0) ≡ false
is_not_zero n h = by (n == 0) refl
  where
    by : (b : Bool) → (n == 0) ≡ b → (n == 0) ≡ false
    by false e = e
    by true e = absurd (h (grind (arith, nat_tests)))

pub none_begun : (s : List Fix) (f : Fix) (place : ℕ) → slice_get s place ≡ Some f → (joined_before s f place % 255 ≡ 0 → ⊥) → begun_by (take place s) (drop place s) ≡ []
none_begun s f place at listed =
    let others = take 254 (filter (joins f) (drop (place + 1) s)) in
    ap (begun_by (take place s)) (front s place f at) ∙ ap (λ b. cond b (record_spelling (record_of (record { first = f; others = others }))) []) (is_not_zero _ listed)

-- a record was pushed of the source at a place
pub pushed : {E A : Type 0} (s : List Fix) (place : ℕ) (d : Fix) (r : Result A E) (old new : List ℕ) (offsets : List ℤ) → ((f : Fix) → slice_get s place ≡ Some f → offsets ≡ listed_offsets f (drop (place + 1) s)) →
    IfOk r (λ _. new ≡ old ++ record_spelling (record_with (get_or s place d) offsets)) → IfOk r (λ _. (f : Fix) → slice_get s place ≡ Some f → new ≡ old ++ record_spelling (record_with f (listed_offsets f (drop (place + 1) s))))
pushed s place d (Err e) old new offsets are h = tt
pushed s place d (Ok done) old new offsets are h = λ f at.
    h ∙ ap (λ (g : Fix). old ++ record_spelling (record_with g offsets)) (get_or_from_slice_get s place f d at) ∙ ap (λ (os : List ℤ). old ++ record_spelling (record_with f os)) (are f at)

pub nothing : (old bytes : List ℕ) → bytes ≡ [] → old ≡ old ++ bytes
nothing old bytes none = sym (append_none old) ∙ ap (λ (ys : List ℕ). old ++ ys) (sym none)
