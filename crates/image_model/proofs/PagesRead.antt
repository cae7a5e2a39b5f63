-- The page table of a file is read as the forms of its image.
use Rattle.std.proofs.Common.{◌≡◌, ℕ, suc, ◌+◌, ◌*◌, ◌^◌, ◌<◌, List, [], ◌∷◌, length, map, Option, Some, None, refl, sym, ap, ◌∙◌, length-append, arith}
use Rattle.std.specs.Prelude.{option_map}
use Rattle.std.specs.List.{flat_map, range_with_len, AllByRecursion as Each}
use Rattle.lx_types.specs.Object.{zero_page}
use Rattle.lx_types.specs.declared.object.PageHead.{PageHead}
use Rattle.lx_types.specs.declared.object.PageKind.{PageKind}
use Rattle.lx_types.specs.declared.object.PageKind.TheVariants.{Plain, Iterated, Invalid, Zero}
use Rattle.lx_model.specs.declared.lengths.TheConstants.{PAGE_ENTRY_LEN}
use Rattle.lx_model.specs.declared.header_fields.TheConstants.{PAGE_OFFSET_SHIFT, ITERATED_PAGES, DATA_PAGES}
use Rattle.lx_model.specs.Reading.{number_at}
use Rattle.lx_model.specs.Header.{field, page_count}
use Rattle.lx_model.specs.Iterated.{groups_spelling}
use Rattle.lx_model.specs.Tables.{page_kind, page_of_kind, page_entry, page_or_zero, page_place, page_heads}
use Rattle.lx_model.specs.TableSpelling.{page_fields, PageHeadFits}
use Rattle.lx_model.proofs.PlacesRead.{pages_again}
use Rattle.image_model.specs.Image.{Image, PageForm, plain, iterated, zeros}
use Rattle.image_model.specs.PageTables.{form_data, page_head, page_heads_from}
use Rattle.image_model.specs.Sections.{sections, pages_at, data_at}
use Rattle.image_model.specs.File.{file_of}
use Rattle.image_model.specs.ReadBack.{FormFits, placed_page, ImageFits}
use Rattle.image_model.proofs.Fields.{tables}
use Rattle.image_model.proofs.Places.{file_long}
use Rattle.image_model.proofs.Standing.{standing, from_residents}

-- ---- the entries of the table fit

heads_fit : (forms : List PageForm) (at : ℕ) → Each FormFits forms → at + length (flat_map form_data forms) < 2 ^ 32 → Each PageHeadFits (page_heads_from at forms)
heads_fit [] at fits short = tt
heads_fit (form ∷ forms) at fits short =
    let long = length-append (form_data form) (flat_map form_data forms) in
    (head_fits form at fits.0 (omega (arith, short, long)), heads_fit forms (at + length (form_data form)) fits.1 (omega (arith, short, long)))
  where
    head_fits : (form : PageForm) (at : ℕ) → FormFits form → at < 2 ^ 32 → PageHeadFits (page_head at form)
    head_fits (plain bytes) at fits short = record { at = short; len = omega (arith, fits) }
    head_fits (iterated groups) at fits short = record { at = short; len = fits.2 }
    head_fits zeros at fits short = record { at = omega arith; len = omega arith }

pub heads_long : (forms : List PageForm) (at : ℕ) → length (page_heads_from at forms) ≡ length forms
heads_long [] at = refl
heads_long (form ∷ forms) at = ap suc (heads_long forms (at + length (form_data form)))

-- ---- where their data stands

-- An entry's page, where data pages and iterated pages begin at these places, and offsets are shifted.
abbrev placed_by : ℕ → ℕ → ℕ → PageHead → PageHead
placed_by plain_from iterated_from shift page = elim page.kind [
  | Plain ↦ record { kind = Plain; at = plain_from + page.at * 2 ^ shift; len = page.len }
  | Iterated ↦ record { kind = Iterated; at = iterated_from + page.at * 2 ^ shift; len = page.len }
  | Invalid ↦ record { kind = Invalid; at = 0; len = 0 }
  | Zero ↦ zero_page
]

abbrev entry_by : List ℕ → ℕ → Option PageHead
entry_by file at = option_map (placed_by (field file DATA_PAGES) (field file ITERATED_PAGES) (field file PAGE_OFFSET_SHIFT)) (page_fields file at)

entry_is : (file : List ℕ) (at : ℕ) → page_entry file at ≡ entry_by file at
entry_is file at = by_kind (page_kind (number_at 2 file (at + 6)))
  where
    by_kind : (kind : Option PageKind) → page_of_kind file at kind ≡ option_map (placed_by (field file DATA_PAGES) (field file ITERATED_PAGES)
        (field file PAGE_OFFSET_SHIFT)) (option_map (λ k. record { kind = k; at = number_at 4 file at; len = number_at 2 file (at + 4) }) kind)
    by_kind None = refl
    by_kind (Some Plain) = refl
    by_kind (Some Iterated) = refl
    by_kind (Some Invalid) = refl
    by_kind (Some Zero) = refl

abbrev placed_in : List ℕ → PageHead → PageHead
placed_in file page = placed_by (field file DATA_PAGES) (field file ITERATED_PAGES) (field file PAGE_OFFSET_SHIFT) page

entries_are : (file : List ℕ) (place : ℕ → ℕ) (ks : List ℕ) → map (λ k. page_entry file (place k)) ks ≡ map (option_map (placed_in file)) (map (λ k. page_fields file (place k)) ks)
entries_are file place [] = refl
entries_are file place (k ∷ ks) =
    ap (λ (o : Option PageHead). o ∷ map (λ k. page_entry file (place k)) ks) (entry_is file (place k))
    ∙ ap (λ (ps : List (Option PageHead)). entry_by file (place k) ∷ ps) (entries_are file place ks)

somes : (file : List ℕ) (ps : List PageHead) → map (option_map (placed_in file)) (map Some ps) ≡ map Some (map (placed_in file) ps)
somes file [] = refl
somes file (p ∷ ps) = ap (λ (qs : List (Option PageHead)). Some (placed_in file p) ∷ qs) (somes file ps)

-- of an image: all data stands after one place, and nothing is shifted
heads_placed : (from : ℕ) (forms : List PageForm) (at : ℕ) → map (placed_by from from 0) (page_heads_from at forms) ≡ map (placed_page from) (page_heads_from at forms)
heads_placed from [] at = refl
heads_placed from (form ∷ forms) at =
    ap (λ (p : PageHead). p ∷ map (placed_by from from 0) (page_heads_from (at + length (form_data form)) forms)) (head_placed form)
    ∙ ap (λ (ps : List PageHead). placed_page from (page_head at form) ∷ ps) (heads_placed from forms (at + length (form_data form)))
  where
    once : from + at * 2 ^ 0 ≡ from + at
    once = omega arith

    head_placed : (form : PageForm) → placed_by from from 0 (page_head at form) ≡ placed_page from (page_head at form)
    head_placed (plain bytes) = ap (λ (n : ℕ). record { kind = Plain; at = n; len = length bytes }) once
    head_placed (iterated groups) = ap (λ (n : ℕ). record { kind = Iterated; at = n; len = length (groups_spelling groups) }) once
    head_placed zeros = refl

-- ---- the table

contents_short : (m : Image) → ImageFits m → 0 + length (flat_map form_data m.pages) < 2 ^ 32
unfolding sections
contents_short m fits = omega (arith, fits.short, file_long m)

-- the entries of the table
pub page_entries_read : (m : Image) → ImageFits m →
    map (λ k. page_entry (file_of m) (page_place (file_of m) k)) (range_with_len 0 (page_count (file_of m))) ≡ map Some (map (placed_page (data_at (sections m))) (page_heads_from 0 m.pages))
unfolding sections
page_entries_read m fits =
    let s = sections m in
    let file = file_of m in
    let has = (standing m).pages in
    let heads = page_heads_from 0 m.pages in
    let t = tables m fits in
    let number : page_count file ≡ length heads = t.page_number ∙ sym (heads_long m.pages 0) in
    ap (λ (n : ℕ). map (λ k. page_entry file (n + PAGE_ENTRY_LEN * k)) (range_with_len 0 (page_count file))) t.pages
    ∙ ap (λ (n : ℕ). map (λ k. page_entry file (pages_at s + PAGE_ENTRY_LEN * k)) (range_with_len 0 n)) number
    ∙ entries_are file (λ k. pages_at s + PAGE_ENTRY_LEN * k) (range_with_len 0 (length heads))
    ∙ ap (λ (n : ℕ). map (option_map (placed_in file)) (map (λ k. page_fields file (n + PAGE_ENTRY_LEN * k)) (range_with_len 0 (length heads)))) (sym has.long)
    ∙ ap (λ (ys : List ℕ). map (option_map (placed_in file)) (map (λ k. page_fields ys (length has.before + PAGE_ENTRY_LEN * k)) (range_with_len 0 (length heads)))) has.spelled
    ∙ ap (λ (os : List (Option PageHead)). map (option_map (placed_in file)) os) (pages_again has.before heads (from_residents s) (heads_fit m.pages 0 fits.pages (contents_short m fits)))
    ∙ somes file heads
    ∙ ap (λ (n : ℕ). map Some (map (placed_by n (field file ITERATED_PAGES) (field file PAGE_OFFSET_SHIFT)) heads)) t.contents
    ∙ ap (λ (n : ℕ). map Some (map (placed_by (data_at s) n (field file PAGE_OFFSET_SHIFT)) heads)) t.iterated
    ∙ ap (λ (n : ℕ). map Some (map (placed_by (data_at s) (data_at s) n) heads)) t.shift
    ∙ ap (λ (ps : List PageHead). map Some ps) (heads_placed (data_at s) m.pages 0)

or_zero : (f : ℕ → Option PageHead) (ks : List ℕ) → map (λ k. page_or_zero (f k)) ks ≡ map page_or_zero (map f ks)
or_zero f [] = refl
or_zero f (k ∷ ks) = ap (λ (ps : List PageHead). page_or_zero (f k) ∷ ps) (or_zero f ks)

some_or_zero : (ps : List PageHead) → map page_or_zero (map Some ps) ≡ ps
some_or_zero [] = refl
some_or_zero (p ∷ ps) = ap (λ (qs : List PageHead). p ∷ qs) (some_or_zero ps)

pub pages_read : (m : Image) → ImageFits m → page_heads (file_of m) ≡ map (placed_page (data_at (sections m))) (page_heads_from 0 m.pages)
unfolding page_heads
pages_read m fits =
    let file = file_of m in
    or_zero (λ k. page_entry file (page_place file k)) (range_with_len 0 (page_count file))
    ∙ ap (λ (os : List (Option PageHead)). map page_or_zero os) (page_entries_read m fits)
    ∙ some_or_zero (map (placed_page (data_at (sections m))) (page_heads_from 0 m.pages))
