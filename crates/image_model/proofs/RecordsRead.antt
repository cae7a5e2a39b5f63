-- The fixup records of a file's pages are read as those of its image.
use Rattle.std.proofs.Common.{◌≡◌, ℕ, ◌+◌, ◌-◌, List, [], ◌∷◌, ◌++◌, length, map, take, drop, refl, sym, subst, ap, ◌∙◌, append_assoc, arith}
use Rattle.std.specs.List.{flat_map, range_with_len, AllByRecursion as Each}
use Rattle.std.proofs.lemmas.List.{take_at}
use Rattle.lx_types.specs.declared.fix.Fix.{Fix}
use Rattle.lx_types.specs.declared.fix.FixTarget.{FixTarget}
use Rattle.lx_types.specs.Parts.{span}
use Rattle.lx_model.specs.Reading.{Many}
use Rattle.lx_model.specs.Header.{page_count}
use Rattle.lx_model.specs.FixupPages.{records_span, spans_of}
use Rattle.lx_model.specs.Module.{targets_of}
use Rattle.lx_model.specs.Records.{Record, records_at, fixes_of}
use Rattle.lx_model.specs.RecordSpelling.{Written, fixes_written, RecordFits}
use Rattle.lx_model.proofs.PagesRead.{Means, records_mean}
use Rattle.image_model.specs.Image.{Image}
use Rattle.image_model.specs.PageTables.{page_records}
use Rattle.image_model.specs.Sections.{sections, records_at as records_place}
use Rattle.image_model.specs.File.{file_of}
use Rattle.image_model.specs.ReadBack.{spans_from, ImageFits, targets_of as targets_written}
use Rattle.image_model.proofs.SpansRead.{spans_read}
use Rattle.image_model.proofs.Standing.{HasFrom, standing, after, dropped, from_imports}

-- The records that stand in a span of the file.
abbrev pub records_in_span : List ℕ → ℕ × ℕ → Many Record
records_in_span file s = records_at s.0 (span file s.0 s.1)

-- A span of bytes that the file has from a place on.
pub spanned : (file : List ℕ) (at : ℕ) (some rest : List ℕ) → HasFrom file at (some ++ rest) → span file at (at + length some) ≡ some
spanned file at some rest has =
    let long : at + length some - at ≡ length some = omega arith in
    ap (λ (n : ℕ). take n (drop at file)) long
    ∙ ap (λ (ys : List ℕ). take (length some) ys) (dropped file at (some ++ rest) has)
    ∙ take_at some rest (length some) refl

-- The records of a page, where they stand.
pub page_means : (file : List ℕ) (at : ℕ) (page : List Written) (rest : List ℕ) → HasFrom file at (page_records page ++ rest) →
    Each RecordFits page → Means (records_in_span file (at, at + length (page_records page))) (flat_map fixes_written page)
page_means file at page rest has fits = subst (λ (bytes : List ℕ). Means (records_at at bytes) (flat_map fixes_written page)) (sym (spanned file at (page_records page) rest has)) (records_mean page at fits)

abbrev targets_of_records : Many Record → List FixTarget
targets_of_records records = map (λ f. f.target) (fixes_of records)

abbrev targets_of_page : List Written → List FixTarget
targets_of_page page = map (λ f. f.target) (flat_map fixes_written page)

pub regrouped : (file : List ℕ) (at : ℕ) (a b rest : List ℕ) → HasFrom file at ((a ++ b) ++ rest) → HasFrom file at (a ++ (b ++ rest))
regrouped file at a b rest has = subst (λ (ys : List ℕ). HasFrom file at ys) (append_assoc a b rest) has

pages_mean : (file : List ℕ) (pages : List (List Written)) (at : ℕ) (rest : List ℕ) → HasFrom file at (flat_map page_records pages ++ rest) → Each (Each RecordFits) pages
    → flat_map (λ s. targets_of_records (records_in_span file s)) (spans_from at pages) ≡ flat_map targets_of_page pages
pages_mean file [] at rest has fits = refl
pages_mean file (page ∷ pages) at rest has fits =
    let bytes = page_records page in
    let tail = flat_map page_records pages ++ rest in
    let here = regrouped file at bytes (flat_map page_records pages) rest has in
    let means = page_means file at page tail here fits.0 in
    let others = pages_mean file pages (at + length bytes) rest (after file at bytes tail here) fits.1 in
    ap (λ (fs : List Fix). map (λ f. f.target) fs ++ flat_map (λ s. targets_of_records (records_in_span file s)) (spans_from (at + length bytes) pages)) means.fixes_are
    ∙ ap (λ (ts : List FixTarget). targets_of_page page ++ ts) others

-- ---- all pages of the table

by_spans : {A : Type 0} (give : ℕ × ℕ → List A) (spans : ℕ → ℕ × ℕ) (ks : List ℕ) → flat_map (λ k. give (spans k)) ks ≡ flat_map give (map spans ks)
by_spans give spans [] = refl
by_spans {A} give spans (k ∷ ks) = ap (λ (xs : List A). give (spans k) ++ xs) (by_spans give spans ks)

pub targets_read : (m : Image) → ImageFits m → targets_of (file_of m) ≡ targets_written m
unfolding sections spans_of
targets_read m fits =
    let file = file_of m in
    by_spans (λ s. targets_of_records (records_in_span file s)) (records_span file) (range_with_len 0 (page_count file))
    ∙ ap (λ (ss : List (ℕ × ℕ)). flat_map (λ s. targets_of_records (records_in_span file s)) ss) (spans_read m fits)
    ∙ pages_mean file m.records (records_place (sections m)) (from_imports (sections m)) (standing m).records fits.records
