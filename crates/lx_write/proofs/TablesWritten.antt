-- The tables of an image fit each other.
use Rattle.std.proofs.Common.{◌≡◌, ℕ, ◌+◌, ◌≤◌, Bool, true, false, List, [], ◌∷◌, length, map, refl, sym, subst, ap, ◌∙◌, length-append, cond, eqb, inl, inr, arith}
use Rattle.std.specs.Prelude.{IfSome}
use Rattle.std.specs.List.{flat_map, AllByRecursion}
use Rattle.std.proofs.lemmas.Bool.Decides.{nat_tests}
use Rattle.std.proofs.lemmas.List.{length-map}
use Rattle.std.proofs.lemmas.List.FromFn.{length-map-range_with_len}
use Rattle.std.proofs.lemmas.List.Concat.{flat_map-cons}
use Rattle.lx_types.specs.Sound.{IsNumberOf, HasPages}
use Rattle.link_model.specs.Records.{page_count}
use Rattle.link_model.specs.declared.symbols.LaidObject.{LaidObject}
use Rattle.image_model.specs.PageForms.{pages_in, page_in, form_of_page}
use Rattle.image_model.specs.ObjectTable.{object_heads_from}
use Rattle.lx_model.specs.JoinedRecords.{records_for}
use Rattle.lx_write.specs.Value.{fix_in_file, page_fixes, image_value}
use Rattle.lx_write.specs.WrittenLaws.{WrittenTablesFit}
use Rattle.lx_write.proofs.Fields.{objects_counted}

-- how many pages objects have together
abbrev pages_together : List LaidObject → ℕ
pages_together [] = 0
pages_together (o ∷ os) = page_count o.size + pages_together os

pages_long : (os : List LaidObject) (bytes : List (List ℕ)) → map length bytes ≡ map (λ o. o.size) os → length (flat_map pages_in bytes) ≡ pages_together os
pages_long [] [] same = refl
pages_long [] (b ∷ bytes) same = absurd cc
pages_long (o ∷ os) [] same = absurd cc
pages_long (o ∷ os) (b ∷ bytes) same =
    let here : length b ≡ o.size = cc in
    let after : map length bytes ≡ map (λ o. o.size) os = cc in
    let count : length (pages_in b) ≡ page_count o.size = length-map-range_with_len (page_in b) 0 (page_count (length b)) ∙ ap page_count here in
    let rest = pages_long os bytes after in
    ap length (flat_map-cons pages_in b bytes) ∙ length-append (pages_in b) (flat_map pages_in bytes) ∙ (omega (arith, count, rest))

fixes_long : {A : Type 0} (os : List LaidObject) (fixes : List (List A)) → map length fixes ≡ map (λ o. page_count o.size) os → length (flat_map (λ pages. pages) fixes) ≡ pages_together os
fixes_long [] [] same = refl
fixes_long [] (f ∷ fixes) same = absurd cc
fixes_long (o ∷ os) [] same = absurd cc
fixes_long (o ∷ os) (f ∷ fixes) same =
    let here : length f ≡ page_count o.size = cc in
    let after : map length fixes ≡ map (λ o. page_count o.size) os = cc in
    let rest = fixes_long os fixes after in
    ap length (flat_map-cons (λ pages. pages) f fixes) ∙ length-append f (flat_map (λ pages. pages) fixes) ∙ (omega (arith, here, rest))

own_pages : (os : List LaidObject) (first table : ℕ) → 1 ≤ first → first + pages_together os ≤ table + 1 → AllByRecursion (HasPages table) (object_heads_from first os)
own_pages [] first table some within = tt
own_pages (o ∷ os) first table some within =
    (by_count (eqb (page_count o.size) 0) refl, own_pages os (first + page_count o.size) table (omega (arith, some)) (omega (arith, within)))
  where
    by_count : (t : Bool) → eqb (page_count o.size) 0 ≡ t → HasPages table (record { size = o.size; base = o.base; flags = o.flags; first = cond t 0 first; count = page_count o.size })
    by_count true e = inl (let none : page_count o.size ≡ 0 = grind (arith, nat_tests) in none)
    by_count false e = inr (some, omega (arith, within))

pub written_tables_fit : WrittenTablesFit
unfolding image_value page_fixes
written_tables_fit m can =
    let pages = length-map (flat_map pages_in m.bytes) form_of_page ∙ pages_long m.objects m.bytes can.sizes in
    let records =
    length-map (map (map (fix_in_file m)) (flat_map (λ pages. pages) m.fixes)) records_for ∙ length-map (flat_map (λ pages. pages) m.fixes) (map (fix_in_file m))
    ∙ fixes_long m.objects m.fixes can.pages in
    let objects = sym (objects_counted m.objects 1) in
    record {
      each = records ∙ sym pages;
      own_pages = own_pages m.objects 1 (length (map form_of_page (flat_map pages_in m.bytes))) (omega arith) (omega (arith, pages));
      start = subst (λ n. IfSome m.start (λ place. IsNumberOf place.0 n)) objects can.start;
      stack = subst (λ n. IfSome m.stack (λ place. IsNumberOf place.0 n)) objects can.stack;
    }
