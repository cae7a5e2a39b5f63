-- The objects of the bound file: those of the old one, and the new one.
use Rattle.std.proofs.Common.{◌≡◌, ℕ, ◌+◌, ◌*◌, ◌<◌, ◌≤◌, ◌^◌, ◌⊎◌, inl, inr, Bool, true, false, cond, ◌&&◌, leb, eqb, List, [], ◌∷◌, ◌++◌, map, length, take, get_or, Some, None, refl, sym, subst, ap, ◌∙◌, append_assoc, append-nil, arith}
use Rattle.std.specs.List.{range_with_len}
use Rattle.std.proofs.lemmas.Bool.Decides.{nat_tests}
use Rattle.std.proofs.lemmas.List.{length-take, take-append-drop}
use Rattle.std.proofs.lemmas.List.FromFn.{map-range_with_len_more, length-map-range_with_len, get_or-map-range_with_len}
use Rattle.lx_types.specs.Parts.{span}
use Rattle.lx_types.specs.declared.object.ObjHead.{ObjHead}
use Rattle.lx_types.specs.declared.refusal.LxKind.TheVariants as kinds
use Rattle.lx_types.specs.declared.limits.TheConstants.{BASE_UNIT}
use Rattle.lx_model.specs.declared.lengths.TheConstants.{OBJECT_ENTRY_LEN}
use Rattle.lx_model.specs.declared.header_fields.TheConstants.{OBJECT_TABLE}
use Rattle.lx_model.specs.Reading.{fault, number_at, short_at, first, first_of}
use Rattle.lx_model.specs.Header.{table, page_count, object_count}
use Rattle.lx_model.specs.Tables.{object_entry, object_place, objects_of, object_fault, objects_fault, lacks_pages}
use Rattle.lx_model.specs.TableSpelling.{object_spelling, objects_spelling, ObjectHeadFits}
use Rattle.lx_model.specs.Module.{LxFault}
use Rattle.lx_model.proofs.Meaning.{judged}
use Rattle.lx_types.specs.Sound.{HasPages}
use Rattle.lx_model.proofs.Soundness.{objects_fit}
use Rattle.res_laws.proofs.Lists.{each_two}
use Rattle.res_laws.proofs.HeaderFaults.{none_range, long_enough}
use Rattle.lx_model.proofs.PlacesRead.{objects_again}
use Rattle.res_model.specs.declared.item.ResItem.{ResItem}
use Rattle.res_model.specs.Bound.{object_table, old_entries, new_object, ends_above, base_or_zero}
use Rattle.res_model.specs.Layout.{objects_place}
use Rattle.res_model.specs.Placed.{up_to_unit, new_page_count}
use Rattle.res_laws.proofs.Lists.{map_range, At, at_more, at_same, copied, length_table}
use Rattle.res_laws.proofs.Standing.{extended}
use Rattle.res_laws.proofs.Layouts.{CanExtend, small, size_small, rise, stands, objects_there, from_pages}
use Rattle.res_laws.proofs.HeaderNow.{header_now}

-- ---- an entry where it is spelled

pub object_at : (file : List ℕ) (at : ℕ) (o : ObjHead) (rest : List ℕ) → At file at (object_spelling o ++ rest) → ObjectHeadFits o → object_entry file at ≡ o
object_at file at o rest here fits =
    let before = take at file in
    let whole : before ++ (objects_spelling (o ∷ []) ++ rest) ≡ file =
    ap (λ (xs : List ℕ). before ++ (xs ++ rest)) (append-nil (object_spelling o)) ∙ ap (λ (xs : List ℕ). before ++ xs) (sym here.is) ∙ take-append-drop at file in
    let size = length-take at file in
    let long = here.long in
    let place : length before + OBJECT_ENTRY_LEN * 0 ≡ at = omega (arith, size, long) in
    let again = ap (λ (os : List ObjHead). get_or os 0 o) (objects_again before (o ∷ []) rest (fits, tt)) in
    subst (λ (k : ℕ). object_entry file k ≡ o) place (subst (λ (xs : List ℕ). object_entry xs (length before + OBJECT_ENTRY_LEN * 0) ≡ o) whole again)

-- ---- the table

abbrev entry_of : ℕ → ℕ → ℕ → ℕ → ℕ → ObjHead
entry_of a b c d e = record { size = a; base = b; flags = c; first = d; count = e }

same_entry : {a b c d e a' b' c' d' e' : ℕ} → a ≡ a' → b ≡ b' → c ≡ c' → d ≡ d' → e ≡ e' → entry_of a b c d e ≡ entry_of a' b' c' d' e'
same_entry p q r s t = cc

old_there : (file : List ℕ) (items : List ResItem) → CanExtend file items → At (extended file items) (objects_place file items) (span file (table file OBJECT_TABLE) (table file OBJECT_TABLE + OBJECT_ENTRY_LEN * object_count file) ++ (object_spelling (new_object file items) ++ from_pages file items))
unfolding object_table
old_there file items can = at_same (extended file items) _ _ (objects_place file items) (append_assoc (old_entries file OBJECT_TABLE OBJECT_ENTRY_LEN (object_count file)) (object_spelling (new_object file items)) (from_pages file items)) (stands file items can).objects

number_moved : (file : List ℕ) (items : List ResItem) (k j : ℕ) → CanExtend file items → k < object_count file → j + 4 ≤ 24 → number_at 4 (extended file items) (objects_place file items + OBJECT_ENTRY_LEN * k + j) ≡ number_at 4 file (table file OBJECT_TABLE + OBJECT_ENTRY_LEN * k + j)
number_moved file items k j can lt le =
    let a = table file OBJECT_TABLE in
    let len = OBJECT_ENTRY_LEN * object_count file in
    ap (number_at 4 (extended file items)) (omega arith)
    ∙ copied 4 (objects_place file items) (OBJECT_ENTRY_LEN * k + j) a len (extended file items) file (object_spelling (new_object file items) ++ from_pages file items) (old_there file items can) (objects_there file can.faultless) (omega arith) (omega (arith, lt, le))
    ∙ ap (number_at 4 file) (omega arith)

pub entry_moved : (file : List ℕ) (items : List ResItem) (k : ℕ) → CanExtend file items → k < object_count file → object_entry (extended file items) (objects_place file items + OBJECT_ENTRY_LEN * k) ≡ object_entry file (table file OBJECT_TABLE + OBJECT_ENTRY_LEN * k)
entry_moved file items k can lt =
    let none : (x : ℕ) → x + 0 ≡ x = (λ x. omega arith) in
    let size : number_at 4 (extended file items) (objects_place file items + OBJECT_ENTRY_LEN * k) ≡ number_at 4 file (table file OBJECT_TABLE + OBJECT_ENTRY_LEN * k) =
    ap (number_at 4 (extended file items)) (sym (none (objects_place file items + OBJECT_ENTRY_LEN * k))) ∙ number_moved file items k 0 can lt (omega arith) ∙ ap (number_at 4 file) (none (table file OBJECT_TABLE + OBJECT_ENTRY_LEN * k)) in
    same_entry size (number_moved file items k 4 can lt (omega arith)) (number_moved file items k 8 can lt (omega arith)) (number_moved file items k 12 can lt (omega arith)) (number_moved file items k 16 can lt (omega arith))

base_small : (n : ℕ) → base_or_zero n < 2 ^ 32
base_small n = by_test (leb n 0xFFFF0000) refl
  where
    by_test : (b : Bool) → leb n 0xFFFF0000 ≡ b → cond b n 0 < 2 ^ 32
    by_test true is = grind (arith, nat_tests)
    by_test false is = omega arith

first_small : (none : Bool) (n : ℕ) → n < 2 ^ 32 → cond none 0 n < 2 ^ 32
first_small true n lt = omega arith
first_small false n lt = lt

pub objects_number : (file : List ℕ) → length (objects_of file) ≡ object_count file
unfolding objects_of
objects_number file = length-map-range_with_len (λ k. object_entry file (object_place file k)) 0 (object_count file)

new_fits : (file : List ℕ) (items : List ResItem) → CanExtend file items → ObjectHeadFits (new_object file items)
unfolding new_object
new_fits file items can =
    let s = small file items can in
    let pages = s.pages in
    let size = size_small file items can in
    record {
      size = omega (arith, size);
      base = base_small (up_to_unit (ends_above 0 (objects_of file)) BASE_UNIT);
      flags = omega arith;
      first = first_small (eqb (new_page_count items) 0) (page_count file + 1) (omega (arith, pages));
      count = omega (arith, pages);
    }

new_there : (file : List ℕ) (items : List ResItem) → CanExtend file items → object_entry (extended file items) (objects_place file items + OBJECT_ENTRY_LEN * object_count file) ≡ new_object file items
new_there file items can =
    object_at (extended file items) (objects_place file items + OBJECT_ENTRY_LEN * object_count file) (new_object file items) (from_pages file items)
    (at_more (extended file items) (span file (table file OBJECT_TABLE) (table file OBJECT_TABLE + OBJECT_ENTRY_LEN * object_count file)) _ (objects_place file items) (OBJECT_ENTRY_LEN * object_count file) (old_there file items can)
    (length_table file (table file OBJECT_TABLE) (OBJECT_ENTRY_LEN * object_count file) (objects_there file can.faultless))) (new_fits file items can)

pub objects_now : (file : List ℕ) (items : List ResItem) → CanExtend file items → objects_of (extended file items) ≡ objects_of file ++ new_object file items ∷ []
unfolding objects_of
objects_now file items can =
    let now = extended file items in
    let h = header_now file items can in
    let n = object_count file in
    let p = objects_place file items in
    let f = (λ (k : ℕ). object_entry now (p + OBJECT_ENTRY_LEN * k)) in
    ap (λ (t : ℕ). map (λ k. object_entry now (t + OBJECT_ENTRY_LEN * k)) (range_with_len 0 (object_count now))) h.objects
    ∙ ap (λ (c : ℕ). map f (range_with_len 0 c)) h.count
    ∙ map-range_with_len_more f 0 n n (omega arith)
    ∙ ap (λ (os : List ObjHead). os ++ f n ∷ []) (map_range f (λ k. object_entry file (object_place file k)) 0 0 n (λ k lt. entry_moved file items (0 + k) can (omega (arith, lt))))
    ∙ ap (λ (o : ObjHead). map (λ k. object_entry file (object_place file k)) (range_with_len 0 n) ++ o ∷ []) (new_there file items can)

-- ---- faults

object_good : (file : List ℕ) (k at : ℕ) → object_place file k ≡ at → lacks_pages (page_count file) (object_entry file at) ≡ false → at + 24 ≤ length file → object_fault file k ≡ None
object_good file k at is whole le =
    subst (λ (a : ℕ). cond (leb (a + 20) (length file) && lacks_pages (page_count file) (object_entry file a)) (Some (fault kinds.Object a)) (first (map (λ i. short_at 4 file (a + 4 * i)) (range_with_len 0 6))) ≡ None) (sym is)
    (by_test (leb (at + 20) (length file)) (lacks_pages (page_count file) (object_entry file at)) whole)
  where
    by_test : (there bad : Bool) → bad ≡ false → cond (there && bad) (Some (fault kinds.Object at)) (first (map (λ i. short_at 4 file (at + 4 * i)) (range_with_len 0 6))) ≡ None
    by_test true true e = absurd cc
    by_test true false e = none_range (λ i. short_at 4 file (at + 4 * i)) 6 (λ i lt. long_enough 4 file (at + 4 * i) (omega (arith, lt, le)))
    by_test false bad e = none_range (λ i. short_at 4 file (at + 4 * i)) 6 (λ i lt. long_enough 4 file (at + 4 * i) (omega (arith, lt, le)))

still_has : (pages more : ℕ) (o : ObjHead) → HasPages pages o → pages ≤ more → lacks_pages more o ≡ false
still_has pages more o (inl none) le = rw none refl
still_has pages more o (inr there) le = let a = there.0 in let b = there.1 in grind (arith, nat_tests)

new_has : (file : List ℕ) (items : List ResItem) (pages : ℕ) → page_count file + new_page_count items ≡ pages → HasPages pages (new_object file items)
unfolding new_object
new_has file items pages is = by_test (eqb (new_page_count items) 0) refl
  where
    by_test : (b : Bool) → eqb (new_page_count items) 0 ≡ b → (new_page_count items ≡ 0) ⊎ ((1 ≤ cond b 0 (page_count file + 1)) × (cond b 0 (page_count file + 1) + new_page_count items ≤ pages + 1))
    by_test true e = inl (grind (arith, nat_tests))
    by_test false e = inr (omega arith, omega (arith, is))

old_has : (file : List ℕ) (k : ℕ) → LxFault file ≡ None → k < object_count file → HasPages (page_count file) (object_entry file (object_place file k))
unfolding objects_of
old_has file k e lt =
    let all = objects_fit file (judged file e).objects in
    let o = object_entry file (object_place file k) in
    let size = length-map-range_with_len (λ k. object_entry file (object_place file k)) 0 (object_count file) in
    subst (HasPages (page_count file)) (get_or-map-range_with_len (λ k. object_entry file (object_place file k)) 0 (object_count file) k k o lt (omega arith)) (all k o (omega (arith, lt, size)))

pub objects_faultless : (file : List ℕ) (items : List ResItem) → CanExtend file items → objects_fault (extended file items) ≡ None
unfolding objects_fault
objects_faultless file items can =
    let now = extended file items in
    let h = header_now file items can in
    let n = object_count file in
    let p = objects_place file items in
    let place : (k : ℕ) → object_place now k ≡ p + OBJECT_ENTRY_LEN * k = (λ k. ap (λ (t : ℕ). t + OBJECT_ENTRY_LEN * k) h.objects) in
    let r = rise file items in
    let a = r.pages in
    let b = r.fixups in
    let c = r.resources in
    let d = r.whole in
    let long = (stands file items can).long in
    let room : (k : ℕ) → k < n + 1 → p + OBJECT_ENTRY_LEN * k + 24 ≤ length now = (λ k lt. omega (arith, a, b, c, d, long, lt)) in
    let pages : page_count file ≤ page_count now = (let q = h.pages in omega (arith, q)) in
    subst (λ (m : ℕ). first_of m (object_fault now) ≡ None) (sym h.count) (none_range (object_fault now) (n + 1) (each_two (λ k. object_fault now k ≡ None) n 1
    (λ k lt. object_good now k (p + OBJECT_ENTRY_LEN * k) (place k)
    (subst (λ (o : ObjHead). lacks_pages (page_count now) o ≡ false) (sym (entry_moved file items k can lt)) (still_has (page_count file) (page_count now) (object_entry file (object_place file k)) (old_has file k can.faultless lt) pages))
    (room k (omega (arith, lt))))
    (λ j lt. let last : n ≡ n + j = omega (arith, lt) in
    subst (λ (k : ℕ). object_fault now k ≡ None) last (object_good now n (p + OBJECT_ENTRY_LEN * n) (place n)
    (subst (λ (o : ObjHead). lacks_pages (page_count now) o ≡ false) (sym (new_there file items can)) (still_has (page_count now) (page_count now) (new_object file items) (new_has file items (page_count now) (sym h.pages)) (omega arith)))
    (room n (omega arith))))))
