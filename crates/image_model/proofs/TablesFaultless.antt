-- A written file has no fault in its object table and its fixup page table.
use Rattle.std.proofs.Common.{◌≡◌, ℕ, suc, ◌+◌, ◌-◌, ◌*◌, ◌<◌, ◌≤◌, Bool, true, false, List, [], ◌∷◌, length, map, Some, None, refl, sym, subst, ap, ◌∙◌, arith, length-append, inl, inr}
use Rattle.std.specs.Prelude.{◌==◌, ◌&&◌, ◌||◌, not, nat_lt, nat_le, if◌then◌else◌, ◌++◌}
use Rattle.std.specs.List.{flat_map, range_with_len, AllByRecursion as Each}
use Rattle.std.proofs.lemmas.Bool.{cases_lt, le-ltb, or_from, and_left, and_right}
use Rattle.lx_types.specs.declared.object.ObjHead.{ObjHead}
use Rattle.lx_types.specs.declared.refusal.LxKind.TheVariants as kinds
use Rattle.lx_types.specs.Sound.{HasPages}
use Rattle.lx_model.specs.declared.lengths.TheConstants.{OBJECT_ENTRY_LEN}
use Rattle.lx_model.specs.declared.header_fields.TheConstants.{FIXUP_PAGE_TABLE}
use Rattle.lx_model.specs.Reading.{fault, number_at, short_at, first, ◌then◌}
use Rattle.lx_model.specs.Header.{table, page_count, object_count}
use Rattle.lx_model.specs.Tables.{object_entry, object_place, lacks_pages, object_fault, objects_of, objects_fault}
use Rattle.lx_model.specs.FixupPages.{has_records, offset_place, records_place, is_out_of_order, span_fault, spans_fault}
use Rattle.lx_model.specs.RecordSpelling.{Written}
use Rattle.lx_model.specs.TableSpelling.{doublewords, objects_spelling, object_spelling}
use Rattle.lx_model.proofs.NamesRead.{not_zero}
use Rattle.image_model.specs.Image.{Image}
use Rattle.image_model.specs.PageTables.{page_records, record_offsets_from}
use Rattle.image_model.specs.Sections.{sections, spans_at, records_at}
use Rattle.image_model.specs.File.{file_of}
use Rattle.image_model.specs.ReadBack.{ImageFits}
use Rattle.image_model.proofs.Fields.{tables}
use Rattle.image_model.proofs.Faultless.{otherwise, then_this, all_none, each_at, not_short, after_none}
use Rattle.image_model.proofs.Places.{file_long}
use Rattle.image_model.proofs.SectionsRead.{sections_read}
use Rattle.image_model.proofs.SpansRead.{offsets_long, offsets_read, has_some, head_of, tail_of, first_offset}

-- ---- objects

both_false : (a b c : Bool) → b ≡ false → c ≡ false → (a && (b || c)) ≡ false
both_false true b c p q = ap (λ (x : Bool). x || c) p ∙ q
both_false false b c p q = refl

none_false : (a b : Bool) → a ≡ true → (not a && b) ≡ false
none_false a b p = ap (λ (x : Bool). not x && b) p

has_pages : (pages : ℕ) (o : ObjHead) → HasPages pages o → lacks_pages pages o ≡ false
has_pages pages o (inl none) = none_false (o.count == 0) (o.first == 0 || nat_lt (pages + 1) (o.first + o.count)) (ap (λ (n : ℕ). n == 0) none)
has_pages pages o (inr some) =
    both_false (not (o.count == 0)) (o.first == 0) (nat_lt (pages + 1) (o.first + o.count)) (not_zero o.first (omega (arith, some.0))) (le-ltb (pages + 1) (o.first + o.count) some.1)

objects_long : (os : List ObjHead) → length (objects_spelling os) ≡ OBJECT_ENTRY_LEN * length os
objects_long [] = refl
objects_long (o ∷ os) = omega (arith, length-append (object_spelling o) (objects_spelling os), objects_long os)

entries_have_pages : (m : Image) → ImageFits m → Each (HasPages (length m.pages)) (map (λ k. object_entry (file_of m) (object_place (file_of m) k)) (range_with_len 0 (object_count (file_of m))))
unfolding objects_of
entries_have_pages m fits = subst (λ (os : List ObjHead). Each (HasPages (length m.pages)) os) (sym (sections_read m fits).objects) fits.own_pages

object_faultless : (m : Image) → ImageFits m → (k : ℕ) → k < object_count (file_of m) → object_fault (file_of m) k ≡ None
unfolding sections
object_faultless m fits k below =
    let file = file_of m in
    let t = tables m fits in
    let at = object_place file k in
    let o = object_entry file at in
    let pages : HasPages (length m.pages) o = each_at (HasPages (length m.pages)) (λ i. object_entry file (object_place file i)) 0 (object_count file) k (entries_have_pages m fits) (omega arith) (omega (arith, below)) in
    let lacks : lacks_pages (page_count file) o ≡ false = ap (λ (n : ℕ). lacks_pages n o) t.page_number ∙ has_pages (length m.pages) o pages in
    let inside : at + OBJECT_ENTRY_LEN ≤ length file = omega (arith, below, t.objects, t.object_number, file_long m, objects_long m.objects) in
    otherwise (nat_le (at + 20) (length file) && lacks_pages (page_count file) o) (Some (fault kinds.Object at))
    (first (map (λ i. short_at 4 file (at + 4 * i)) (range_with_len 0 6))) (and_right (nat_le (at + 20) (length file)) (lacks_pages (page_count file) o) lacks)
    ∙ all_none (λ i. short_at 4 file (at + 4 * i)) 0 6 (λ i low high. not_short 4 file (at + 4 * i) (omega (arith, inside, high)))

pub objects_faultless : (m : Image) → ImageFits m → objects_fault (file_of m) ≡ None
unfolding objects_fault
objects_faultless m fits = all_none (object_fault (file_of m)) 0 (object_count (file_of m)) (λ k low high. object_faultless m fits k (omega (arith, high)))

-- ---- the fixup page table

-- Numbers that are the offsets of pages rise, up to the end of the last one.
rises : (number : ℕ → ℕ) (pages : List (List Written)) (k at j : ℕ) → map number (range_with_len k (suc (length pages))) ≡ record_offsets_from at pages → k ≤ j → j < k + length pages → number j ≤ number (j + 1)
unfolding head_of tail_of
rises number [] k at j is low high = absurd (omega (arith, low, high))
rises number (page ∷ pages) k at j is low high =
    let here : number k ≡ at = ap head_of is in
    let rest : map number (range_with_len (k + 1) (suc (length pages))) ≡ record_offsets_from (at + length (page_records page)) pages = ap tail_of is in
    let next : number (k + 1) ≡ at + length (page_records page) = ap head_of rest ∙ first_offset pages (at + length (page_records page)) in
    elim (cases_lt k j) [
      | inl lt ↦ rises number pages (k + 1) (at + length (page_records page)) j rest (omega (arith, lt)) (omega (arith, high))
      | inr ge ↦ let same : k ≡ j = omega (arith, ge, low) in subst (λ (i : ℕ). number i ≤ number (i + 1)) same (omega (arith, here, next))
    ]

bounded : (number : ℕ → ℕ) (pages : List (List Written)) (k at j : ℕ) → map number (range_with_len k (suc (length pages))) ≡ record_offsets_from at pages →
    k ≤ j → j ≤ k + length pages → number j ≤ at + length (flat_map page_records pages)
unfolding head_of tail_of
bounded number [] k at j is low high =
    let here : number k ≡ at = ap head_of is in
    let same : k ≡ j = omega (arith, low, high) in
    subst (λ (i : ℕ). number i ≤ at + 0) same (omega (arith, here))
bounded number (page ∷ pages) k at j is low high =
    let here : number k ≡ at = ap head_of is in
    let rest : map number (range_with_len (k + 1) (suc (length pages))) ≡ record_offsets_from (at + length (page_records page)) pages = ap tail_of is in
    let long = length-append (page_records page) (flat_map page_records pages) in
    elim (cases_lt k j) [
      | inl lt ↦ let further = bounded number pages (k + 1) (at + length (page_records page)) j rest (omega (arith, lt)) (omega (arith, high)) in omega (arith, further, long)
      | inr ge ↦ let same : k ≡ j = omega (arith, ge, low) in subst (λ (i : ℕ). number i ≤ at + length (page_records page ++ flat_map page_records pages)) same (omega (arith, here))
    ]

pub doublewords_long : (ns : List ℕ) → length (doublewords ns) ≡ 4 * length ns
doublewords_long [] = refl
doublewords_long (n ∷ ns) = omega (arith, doublewords_long ns)

in_order : (file : List ℕ) (k : ℕ) → (0 < k → records_place file (k - 1) ≤ records_place file k) → is_out_of_order file k ≡ false
in_order file k rise =
    elim (cases_lt 0 k) [
      | inl some ↦ and_right (nat_lt 0 k) (nat_lt (records_place file k) (records_place file (k - 1))) (le-ltb (records_place file k) (records_place file (k - 1)) (rise some))
      | inr none ↦ and_left (nat_lt 0 k) (nat_lt (records_place file k) (records_place file (k - 1))) (le-ltb 0 k none)
    ]

-- records of one page begin where those before end
rise_at : (file : List ℕ) (from : ℕ) (number : ℕ → ℕ) (pages : List (List Written)) (k : ℕ) → ((i : ℕ) → records_place file i ≡ from + number i) →
    map number (range_with_len 0 (suc (length pages))) ≡ record_offsets_from 0 pages → k ≤ length pages → 0 < k → records_place file (k - 1) ≤ records_place file k
rise_at file from number pages k place offsets within some =
    let rise = rises number pages 0 0 (k - 1) offsets (omega arith) (omega (arith, within, some)) in
    let next : number (k - 1 + 1) ≡ number k = ap number (omega (arith, some)) in
    let here = place (k - 1) in
    let there = place k in
    omega (arith, here, there, rise, next)

span_faultless : (m : Image) → ImageFits m → (k : ℕ) → k ≤ length m.records → span_fault (file_of m) k ≡ None
unfolding sections
span_faultless m fits k within =
    let file = file_of m in
    let s = sections m in
    let t = tables m fits in
    let number : ℕ → ℕ = λ i. number_at 4 file (spans_at s + 4 * i) in
    let offsets = offsets_read m fits in
    let inside : offset_place file k + 4 ≤ length file = omega (arith, within, t.spans, file_long m, doublewords_long (record_offsets_from 0 m.records), offsets_long m.records 0) in
    let place : (i : ℕ) → records_place file i ≡ records_at s + number i =
    λ i. ap (λ (n : ℕ). n + number_at 4 file (table file FIXUP_PAGE_TABLE + 4 * i)) t.records ∙ ap (λ (n : ℕ). records_at s + number_at 4 file (n + 4 * i)) t.spans in
    let most = bounded number m.records 0 0 k offsets (omega arith) (omega (arith, within)) in
    let ends : records_place file k ≤ length file = omega (arith, place k, most, file_long m) in
    let before : 0 < k → records_place file (k - 1) ≤ records_place file k = rise_at file (records_at s) number m.records k place offsets within in
    after_none (short_at 4 file (offset_place file k)) (if is_out_of_order file k || nat_lt (length file) (records_place file k) then Some (fault kinds.FixTable (offset_place file k)) else None)
    (not_short 4 file (offset_place file k) inside)
    (otherwise (is_out_of_order file k || nat_lt (length file) (records_place file k)) (Some (fault kinds.FixTable (offset_place file k))) None
    (or_from (is_out_of_order file k) (nat_lt (length file) (records_place file k)) (in_order file k before) (le-ltb (length file) (records_place file k) ends)))

pub spans_faultless : (m : Image) → ImageFits m → spans_fault (file_of m) ≡ None
unfolding spans_fault
spans_faultless m fits =
    let file = file_of m in
    let t = tables m fits in
    then_this (has_records file) (first (map (span_fault file) (range_with_len 0 (page_count file + 1)))) None (has_some m fits)
    ∙ all_none (span_fault file) 0 (page_count file + 1) (λ k low high. span_faultless m fits k (omega (arith, high, t.page_number, fits.each)))
