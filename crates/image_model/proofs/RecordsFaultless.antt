-- A written file has no fault in its fixup records.
use Rattle.std.proofs.Common.{◌≡◌, ℕ, ◌+◌, true, List, [], ◌∷◌, ◌++◌, length, map, Option, Some, None, Result, refl, sym, subst, ap, ◌∙◌}
use Rattle.std.specs.Prelude.{if◌then◌else◌}
use Rattle.std.specs.List.{flat_map, range_with_len, AllByRecursion as Each}
use Rattle.lx_types.proofs.Lists.{all_front, all_back}
use Rattle.lx_types.specs.declared.fix.Fix.{Fix}
use Rattle.lx_types.specs.declared.fix.FixTarget.{FixTarget}
use Rattle.lx_types.specs.declared.refusal.LxRefusal.{LxRefusal}
use Rattle.lx_types.specs.declared.refusal.LxKind.TheVariants.{BadTarget}
use Rattle.lx_model.specs.declared.header_fields.TheConstants.{IMPORT_PROCEDURE_TABLE}
use Rattle.lx_model.specs.Reading.{fault, first, ◌then◌, first_of, Many, fault_of, value_or}
use Rattle.lx_model.specs.Header.{table, page_count, import_count}
use Rattle.lx_model.specs.EntryTable.{Numbered, entries_of}
use Rattle.lx_model.specs.FixupPages.{records_span, spans_of}
use Rattle.lx_model.specs.Module.{Targets, targets_in, is_target, target_fault, records_fault, page_records_fault}
use Rattle.lx_model.specs.Records.{Record}
use Rattle.lx_model.specs.RecordSpelling.{Written, fixes_written, RecordFits}
use Rattle.lx_model.proofs.PagesRead.{Means}
use Rattle.image_model.specs.Image.{Image}
use Rattle.image_model.specs.PageTables.{page_records}
use Rattle.image_model.specs.Sections.{sections, records_at, procs_at}
use Rattle.image_model.specs.File.{file_of}
use Rattle.image_model.specs.ReadBack.{ImageFits, spans_from, targets_there}
use Rattle.image_model.proofs.Fields.{tables}
use Rattle.image_model.proofs.Faultless.{then_this, none_first, after_none}
use Rattle.image_model.proofs.RecordsRead.{records_in_span, regrouped, page_means}
use Rattle.image_model.proofs.SectionsRead.{sections_read}
use Rattle.image_model.proofs.SpansRead.{spans_read}
use Rattle.image_model.proofs.Standing.{HasFrom, standing, after, from_imports}

-- a target that is there
abbrev IsThere : Targets → FixTarget → Type 0
IsThere within target = is_target within target ≡ true

-- ---- lists of targets

split : (fs gs : List Fix) → map (λ f. f.target) (fs ++ gs) ≡ map (λ f. f.target) fs ++ map (λ f. f.target) gs
split [] gs = refl
split (f ∷ fs) gs = ap (λ (ts : List FixTarget). f.target ∷ ts) (split fs gs)

-- ---- one page

fixes_good : (within : Targets) (at : ℕ) (fixes : List Fix) → Each (IsThere within) (map (λ f. f.target) fixes) → Each (λ f. (if is_target within f.target then None else Some (fault BadTarget at)) ≡ None) fixes
fixes_good within at [] there = tt
fixes_good within at (f ∷ fixes) there = (then_this (is_target within f.target) None (Some (fault BadTarget at)) there.0, fixes_good within at fixes there.1)

items_good : (within : Targets) (items : List Record) → Each (IsThere within) (map (λ f. f.target) (flat_map (λ r. r.fixes) items)) → Each (λ r. target_fault within r ≡ None) items
items_good within [] there = tt
items_good within (r ∷ items) there =
    let others = flat_map (λ x. x.fixes) items in
    let parts = subst (λ (ts : List FixTarget). Each (IsThere within) ts) (split r.fixes others) there in (
      none_first (λ f. if is_target within f.target then None else Some (fault BadTarget r.at)) r.fixes
          (fixes_good within r.at r.fixes (all_front (IsThere within) (map (λ f. f.target) r.fixes) (map (λ f. f.target) others) parts)),
      items_good within items (all_back (IsThere within) (map (λ f. f.target) r.fixes) (map (λ f. f.target) others) parts),
    )

page_good : (within : Targets) (records : Many Record) (fixes : List Fix) → Means records fixes → Each (IsThere within) (map (λ f. f.target) fixes) → records_fault within records ≡ None
page_good within records fixes means there =
    let here = subst (λ (fs : List Fix). Each (IsThere within) (map (λ f. f.target) fs)) (sym means.fixes_are) there in
    after_none (first (map (target_fault within) records.items)) (fault_of records.end) (none_first (target_fault within) records.items (items_good within records.items here)) means.faultless

-- ---- all pages

pages_good : (within : Targets) (file : List ℕ) (pages : List (List Written)) (at : ℕ) (rest : List ℕ) → HasFrom file at (flat_map page_records pages ++ rest) → Each (Each RecordFits) pages
    → Each (IsThere within) (flat_map (λ page. map (λ f. f.target) (flat_map fixes_written page)) pages)
    → Each (λ s. records_fault within (records_in_span file s) ≡ None) (spans_from at pages)
pages_good within file [] at rest has fits there = tt
pages_good within file (page ∷ pages) at rest has fits there =
    let bytes = page_records page in
    let tail = flat_map page_records pages ++ rest in
    let here = regrouped file at bytes (flat_map page_records pages) rest has in
    let own = map (λ f. f.target) (flat_map fixes_written page) in
    let others = flat_map (λ p. map (λ f. f.target) (flat_map fixes_written p)) pages in (
      page_good within (records_in_span file (at, at + length bytes)) (flat_map fixes_written page) (page_means file at page tail here fits.0) (all_front (IsThere within) own others there),
      pages_good within file pages (at + length bytes) rest (after file at bytes tail here) fits.1 (all_back (IsThere within) own others there),
    )

abbrev targets_by : ℕ → ℕ → List ℕ → ℕ → List Numbered → Targets
targets_by objects imports file procs_at entries = record { objects = objects; imports = imports; file = file; procs_at = procs_at; entries = entries }

targets_are : (m : Image) → ImageFits m → targets_in (file_of m) ≡ targets_there m
targets_are m fits =
    let file = file_of m in
    let t = tables m fits in
    ap (λ (n : ℕ). targets_by n (import_count file) file (table file IMPORT_PROCEDURE_TABLE) (value_or [] (entries_of file))) t.object_number
    ∙ ap (λ (n : ℕ). targets_by (length m.objects) n file (table file IMPORT_PROCEDURE_TABLE) (value_or [] (entries_of file))) t.import_number
    ∙ ap (λ (n : ℕ). targets_by (length m.objects) (length m.imports) file n (value_or [] (entries_of file))) t.procs
    ∙ ap (λ (r : Result (List Numbered) LxRefusal). targets_by (length m.objects) (length m.imports) file (procs_at (sections m)) (value_or [] r)) (sections_read m fits).entries

by_spans : (give : ℕ × ℕ → Option LxRefusal) (spans : ℕ → ℕ × ℕ) (ks : List ℕ) → map (λ k. give (spans k)) ks ≡ map give (map spans ks)
by_spans give spans [] = refl
by_spans give spans (k ∷ ks) = ap (λ (xs : List (Option LxRefusal)). give (spans k) ∷ xs) (by_spans give spans ks)

pub records_faultless : (m : Image) → ImageFits m → first_of (page_count (file_of m)) (page_records_fault (file_of m)) ≡ None
unfolding sections spans_of
records_faultless m fits =
    let file = file_of m in
    let give : ℕ × ℕ → Option LxRefusal = λ s. records_fault (targets_in file) (records_in_span file s) in
    ap first (by_spans give (records_span file) (range_with_len 0 (page_count file)))
    ∙ ap (λ (ss : List (ℕ × ℕ)). first (map give ss)) (spans_read m fits)
    ∙ ap (λ (within : Targets). first (map (λ s. records_fault within (records_in_span file s)) (spans_from (records_at (sections m)) m.records))) (targets_are m fits)
    ∙ none_first (λ s. records_fault (targets_there m) (records_in_span file s)) (spans_from (records_at (sections m)) m.records)
    (pages_good (targets_there m) file m.records (records_at (sections m)) (from_imports (sections m)) (standing m).records fits.records fits.targets)
