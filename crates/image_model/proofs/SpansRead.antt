-- The fixup page table of a file leads to the records of each page.
use Rattle.std.proofs.Common.{◌≡◌, ℕ, suc, ◌+◌, ◌*◌, ◌^◌, ◌<◌, Bool, true, List, [], ◌∷◌, ◌++◌, length, map, refl, sym, ap, ◌∙◌, length-append, arith}
use Rattle.std.specs.Prelude.{nat_lt, if◌then◌else◌}
use Rattle.std.specs.List.{flat_map, range_with_len}
use Rattle.std.proofs.lemmas.Bool.Decides.{nat_tests}
use Rattle.lx_model.specs.declared.header_fields.TheConstants.{FIXUP_PAGE_TABLE, FIXUP_RECORD_TABLE}
use Rattle.lx_model.specs.Reading.{number_at}
use Rattle.lx_model.specs.Header.{field, table, page_count}
use Rattle.lx_model.specs.FixupPages.{has_records, records_place, records_span, spans_of}
use Rattle.lx_model.specs.RecordSpelling.{Written}
use Rattle.lx_model.specs.TableSpelling.{AreDoublewords}
use Rattle.lx_model.proofs.PlacesRead.{doublewords_again}
use Rattle.image_model.specs.Image.{Image}
use Rattle.image_model.specs.PageTables.{page_records, record_offsets_from}
use Rattle.image_model.specs.Sections.{sections, spans_at, records_at}
use Rattle.image_model.specs.File.{file_of}
use Rattle.image_model.specs.ReadBack.{spans_from, ImageFits}
use Rattle.image_model.proofs.Fields.{tables}
use Rattle.image_model.proofs.Places.{file_long}
use Rattle.image_model.proofs.Standing.{standing, from_records}

-- ---- the offsets fit

offsets_fit : (pages : List (List Written)) (at : ℕ) → at + length (flat_map page_records pages) < 2 ^ 32 → AreDoublewords (record_offsets_from at pages)
offsets_fit [] at short = (omega (arith, short), tt)
offsets_fit (page ∷ pages) at short =
    let long = length-append (page_records page) (flat_map page_records pages) in
    (omega (arith, short), offsets_fit pages (at + length (page_records page)) (omega (arith, short, long)))

pub offsets_long : (pages : List (List Written)) (at : ℕ) → length (record_offsets_from at pages) ≡ suc (length pages)
offsets_long [] at = refl
offsets_long (page ∷ pages) at = ap suc (offsets_long pages (at + length (page_records page)))

-- ---- from offsets to spans

unfoldable pub head_of : List ℕ → ℕ
head_of [] = 0
head_of (x ∷ xs) = x

unfoldable pub tail_of : List ℕ → List ℕ
tail_of [] = []
tail_of (x ∷ xs) = xs

pub first_offset : (pages : List (List Written)) (at : ℕ) → head_of (record_offsets_from at pages) ≡ at
unfolding head_of
first_offset [] at = refl
first_offset (page ∷ pages) at = refl

-- The numbers of a table are the offsets of pages from one number on.
spans_by : (number : ℕ → ℕ) (from : ℕ) (pages : List (List Written)) (k at : ℕ) → map number (range_with_len k (suc (length pages))) ≡ record_offsets_from at pages
    → map (λ i. (from + number i, from + number (i + 1))) (range_with_len k (length pages)) ≡ spans_from (from + at) pages
unfolding head_of tail_of
spans_by number from [] k at is = refl
spans_by number from (page ∷ pages) k at is =
    let len = length (page_records page) in
    let here : number k ≡ at = ap head_of is in
    let rest : map number (range_with_len (k + 1) (suc (length pages))) ≡ record_offsets_from (at + len) pages = ap tail_of is in
    let next : number (k + 1) ≡ at + len = ap head_of rest ∙ first_offset pages (at + len) in
    let end : from + (at + len) ≡ from + at + len = omega arith in
    ap (λ (n : ℕ). (from + n, from + number (k + 1)) ∷ map (λ i. (from + number i, from + number (i + 1))) (range_with_len (k + 1) (length pages))) here
    ∙ ap (λ (n : ℕ). (from + at, from + n) ∷ map (λ i. (from + number i, from + number (i + 1))) (range_with_len (k + 1) (length pages))) next
    ∙ ap (λ (ss : List (ℕ × ℕ)). (from + at, from + (at + len)) ∷ ss) (spans_by number from pages (k + 1) (at + len) rest)
    ∙ ap (λ (n : ℕ). (from + at, n) ∷ spans_from n pages) end

-- ---- the table

records_short : (m : Image) → ImageFits m → 0 + length (flat_map page_records m.records) < 2 ^ 32
unfolding sections
records_short m fits = omega (arith, fits.short, file_long m)

yes : (n : ℕ) → 0 < n → nat_lt 0 n ≡ true
yes n lt = grind (arith, nat_tests)

pub has_some : (m : Image) → ImageFits m → has_records (file_of m) ≡ true
has_some m fits = yes (field (file_of m) FIXUP_PAGE_TABLE) (omega (arith, (tables m fits).span_offset))

then_this : {A : Type 0} (b : Bool) (x y : A) → b ≡ true → (if b then x else y) ≡ x
then_this b x y is = ap (λ (c : Bool). if c then x else y) is

each_span : (file : List ℕ) (is : has_records file ≡ true) (ks : List ℕ) → map (records_span file) ks ≡ map (λ k. (records_place file k, records_place file (k + 1))) ks
each_span file is [] = refl
each_span file is (k ∷ ks) =
    ap (λ (s : ℕ × ℕ). s ∷ map (records_span file) ks) (then_this (has_records file) (records_place file k, records_place file (k + 1)) (0, 0) is)
    ∙ ap (λ (ss : List (ℕ × ℕ)). (records_place file k, records_place file (k + 1)) ∷ ss) (each_span file is ks)

abbrev spans_with : List ℕ → ℕ → ℕ → List ℕ → List (ℕ × ℕ)
spans_with file at from ks = map (λ k. (from + number_at 4 file (at + 4 * k), from + number_at 4 file (at + 4 * (k + 1)))) ks

pub offsets_read : (m : Image) → ImageFits m → map (λ k. number_at 4 (file_of m) (spans_at (sections m) + 4 * k)) (range_with_len 0 (suc (length m.records))) ≡ record_offsets_from 0 m.records
unfolding sections
offsets_read m fits =
    let s = sections m in
    let has = (standing m).spans in
    let ns = record_offsets_from 0 m.records in
    ap (λ (n : ℕ). map (λ k. number_at 4 (file_of m) (n + 4 * k)) (range_with_len 0 (suc (length m.records)))) (sym has.long)
    ∙ ap (λ (ys : List ℕ). map (λ k. number_at 4 ys (length has.before + 4 * k)) (range_with_len 0 (suc (length m.records)))) has.spelled
    ∙ ap (λ (n : ℕ). map (λ k. number_at 4 (has.before ++ (s.spans ++ from_records s)) (length has.before + 4 * k)) (range_with_len 0 n)) (sym (offsets_long m.records 0))
    ∙ doublewords_again has.before ns (from_records s) (offsets_fit m.records 0 (records_short m fits))

pub spans_read : (m : Image) → ImageFits m → spans_of (file_of m) ≡ spans_from (records_at (sections m)) m.records
unfolding spans_of
spans_read m fits =
    let s = sections m in
    let file = file_of m in
    let t = tables m fits in
    let none : records_at s + 0 ≡ records_at s = omega arith in
    each_span file (has_some m fits) (range_with_len 0 (page_count file))
    ∙ ap (λ (n : ℕ). spans_with file (table file FIXUP_PAGE_TABLE) (table file FIXUP_RECORD_TABLE) (range_with_len 0 n)) (t.page_number ∙ sym fits.each)
    ∙ ap (λ (n : ℕ). spans_with file n (table file FIXUP_RECORD_TABLE) (range_with_len 0 (length m.records))) t.spans
    ∙ ap (λ (n : ℕ). spans_with file (spans_at s) n (range_with_len 0 (length m.records))) t.records
    ∙ spans_by (λ k. number_at 4 file (spans_at s + 4 * k)) (records_at s) m.records 0 0 (offsets_read m fits)
    ∙ ap (λ (n : ℕ). spans_from n m.records) none
