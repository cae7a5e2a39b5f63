-- A written file has no fault in its page table and its page data.
use Rattle.std.proofs.Common.{◌≡◌, ℕ, ◌+◌, ◌*◌, ◌<◌, ◌≤◌, List, [], ◌∷◌, ◌++◌, length, map, Option, Some, None, Result, refl, sym, subst, ap, ◌∙◌, length-append, arith}
use Rattle.std.specs.Prelude.{◌&&◌, nat_le, if◌then◌else◌}
use Rattle.std.specs.List.{flat_map, range_with_len, AllByRecursion as Each}
use Rattle.std.proofs.lemmas.Bool.{le-leb, and_from}
use Rattle.lx_types.specs.Parts.{span}
use Rattle.lx_types.specs.declared.object.PageHead.{PageHead}
use Rattle.lx_types.specs.declared.object.TheConstants.{PAGE_SIZE}
use Rattle.lx_types.specs.declared.refusal.LxRefusal.{LxRefusal}
use Rattle.lx_types.specs.declared.refusal.LxKind.TheVariants as kinds
use Rattle.lx_model.specs.declared.lengths.TheConstants.{PAGE_ENTRY_LEN}
use Rattle.lx_model.specs.Reading.{fault, short_at, ◌then◌, placed, fault_of}
use Rattle.lx_model.specs.Header.{page_count}
use Rattle.lx_model.specs.Iterated.{groups_spelling, expansion}
use Rattle.lx_model.specs.Tables.{page_entry, page_place, kind_fault, data_fault, page_fault, pages_fault}
use Rattle.lx_model.specs.TableSpelling.{page_spelling, pages_spelling}
use Rattle.lx_model.proofs.PagesRead.{groups_again}
use Rattle.image_model.specs.Image.{Image, PageForm, plain, iterated, zeros}
use Rattle.image_model.specs.PageTables.{form_data, page_head, page_heads_from}
use Rattle.image_model.specs.Sections.{sections, data_at}
use Rattle.image_model.specs.File.{file_of}
use Rattle.image_model.specs.ReadBack.{FormFits, placed_page, ImageFits}
use Rattle.image_model.proofs.Fields.{tables}
use Rattle.image_model.proofs.Faultless.{then_this, all_none, each_at, not_short, after_none}
use Rattle.image_model.proofs.PagesRead.{heads_long, page_entries_read}
use Rattle.image_model.proofs.Places.{file_long}
use Rattle.image_model.proofs.RecordsRead.{spanned, regrouped}
use Rattle.image_model.proofs.Standing.{HasFrom, standing, after, from_others}

-- ---- data

-- nothing is wrong with the data of a page, whatever its entry's place is
abbrev IsGood : List ℕ → PageHead → Type 0
IsGood file page = (entry : ℕ) → kind_fault file entry page.kind page ≡ None

ends_inside : (file : List ℕ) (at : ℕ) (some rest : List ℕ) → HasFrom file at (some ++ rest) → at + length some ≤ length file
ends_inside file at some rest has = omega (arith, has.long, ap length has.spelled, length-append has.before (some ++ rest), length-append some rest)

form_good : (file : List ℕ) (from at : ℕ) (form : PageForm) (rest : List ℕ) → FormFits form → HasFrom file (from + at) (form_data form ++ rest) → IsGood file (placed_page from (page_head at form))
form_good file from at (plain bytes) rest fits has entry =
    then_this (nat_le (from + at + length bytes) (length file) && nat_le (length bytes) PAGE_SIZE) None (Some (fault kinds.PageData entry))
    (and_from (nat_le (from + at + length bytes) (length file)) (nat_le (length bytes) PAGE_SIZE)
    (le-leb (from + at + length bytes) (length file) (ends_inside file (from + at) bytes rest has)) (le-leb (length bytes) PAGE_SIZE fits))
form_good file from at (iterated groups) rest fits has entry =
    let bytes = groups_spelling groups in
    then_this (nat_le (from + at + length bytes) (length file)) (fault_of (placed (from + at) (expansion (span file (from + at) (from + at + length bytes))))) (Some (fault kinds.PageData entry))
    (le-leb (from + at + length bytes) (length file) (ends_inside file (from + at) bytes rest has))
    ∙ ap (λ (ys : List ℕ). fault_of (placed (from + at) (expansion ys))) (spanned file (from + at) bytes rest has)
    ∙ ap (λ (r : Result (List ℕ) LxRefusal). fault_of (placed (from + at) r)) (groups_again groups fits.0 fits.1)
form_good file from at zeros rest fits has entry = refl

abbrev IsGoodEntry : List ℕ → Option PageHead → Type 0
IsGoodEntry file page = (entry : ℕ) → data_fault file entry page ≡ None

forms_good : (file : List ℕ) (from : ℕ) (forms : List PageForm) (at : ℕ) (rest : List ℕ) → Each FormFits forms → HasFrom file (from + at) (flat_map form_data forms ++ rest)
    → Each (IsGoodEntry file) (map Some (map (placed_page from) (page_heads_from at forms)))
forms_good file from [] at rest fits has = tt
forms_good file from (form ∷ forms) at rest fits has =
    let bytes = form_data form in
    let tail = flat_map form_data forms ++ rest in
    let here = regrouped file (from + at) bytes (flat_map form_data forms) rest has in
    let place : from + at + length bytes ≡ from + (at + length bytes) = omega arith in
    let next = subst (λ (n : ℕ). HasFrom file n tail) place (after file (from + at) bytes tail here) in
    (form_good file from at form tail fits.0 here, forms_good file from forms (at + length bytes) rest fits.1 next)

entries_good : (m : Image) → ImageFits m → Each (IsGoodEntry (file_of m)) (map (λ k. page_entry (file_of m) (page_place (file_of m) k)) (range_with_len 0 (page_count (file_of m))))
unfolding sections
entries_good m fits =
    let s = sections m in
    let none : data_at s ≡ data_at s + 0 = omega arith in
    let has = subst (λ (n : ℕ). HasFrom (file_of m) n (flat_map form_data m.pages ++ from_others s)) none (standing m).contents in
    subst (λ (os : List (Option PageHead)). Each (IsGoodEntry (file_of m)) os) (sym (page_entries_read m fits)) (forms_good (file_of m) (data_at s) m.pages 0 (from_others s) fits.pages has)

-- ---- entries

pub pages_long : (ps : List PageHead) → length (pages_spelling ps) ≡ PAGE_ENTRY_LEN * length ps
pages_long [] = refl
pages_long (p ∷ ps) = omega (arith, length-append (page_spelling p) (pages_spelling ps), pages_long ps)

page_faultless : (m : Image) → ImageFits m → (k : ℕ) → k < page_count (file_of m) → page_fault (file_of m) k ≡ None
unfolding sections
page_faultless m fits k below =
    let file = file_of m in
    let t = tables m fits in
    let at = page_place file k in
    let inside : at + 8 ≤ length file = omega (arith, below, t.pages, t.page_number, file_long m, pages_long (page_heads_from 0 m.pages), heads_long m.pages 0) in
    let good = each_at (IsGoodEntry file) (λ i. page_entry file (page_place file i)) 0 (page_count file) k (entries_good m fits) (omega arith) (omega (arith, below)) in
    after_none (short_at 4 file at) (short_at 2 file (at + 4) then short_at 2 file (at + 6) then data_fault file at (page_entry file at)) (not_short 4 file at (omega (arith, inside)))
    (after_none (short_at 2 file (at + 4)) (short_at 2 file (at + 6) then data_fault file at (page_entry file at)) (not_short 2 file (at + 4) (omega (arith, inside)))
    (after_none (short_at 2 file (at + 6)) (data_fault file at (page_entry file at)) (not_short 2 file (at + 6) (omega (arith, inside))) (good at)))

pub pages_faultless : (m : Image) → ImageFits m → pages_fault (file_of m) ≡ None
unfolding pages_fault
pages_faultless m fits = all_none (page_fault (file_of m)) 0 (page_count (file_of m)) (λ k low high. page_faultless m fits k (omega (arith, high)))
