-- A header that was written is accepted.
use Rattle.std.proofs.Common.{◌≡◌, ℕ, zero, suc, ◌+◌, ◌*◌, ◌/◌, ◌%◌, ◌^◌, ◌<◌, ◌≤◌, true, false, Option, None, List, [], ◌∷◌, ◌++◌, length, map, refl, sym, subst, ap, ◌∙◌, get_or, ltb, eqb, leb, ◌&&◌, eq-eqb, arith, append-nil, length-append}
use Rattle.std.specs.Prelude.{replicate}
use Rattle.std.specs.List.{range_with_len, AllByRecursion}
use Rattle.std.proofs.lemmas.List.FromFn.{get_or-map-range_with_len}
use Rattle.std.proofs.lemmas.Bool.Decides.{nat_tests}
use Rattle.std.proofs.lemmas.Bool.{le-leb}
use Rattle.lx_types.specs.declared.refusal.LxRefusal.{LxRefusal}
use Rattle.lx_types.specs.declared.refusal.LxKind.TheVariants.{Field, TooMany}
use Rattle.lx_types.specs.declared.limits.TheConstants.{MAX_PAGES, MAX_OBJECTS}
use Rattle.lx_types.specs.declared.object.TheConstants.{PAGE_SIZE}
use Rattle.lx_model.specs.declared.header_fields.TheConstants.{BYTE_ORDER, WORD_ORDER, FORMAT_LEVEL, CPU_TYPE, SYSTEM_TYPE, MODULE_VERSION, MODULE_FLAGS, MODULE_PAGES, EIP_OBJECT, PAGE_SIZE_FIELD, PAGE_OFFSET_SHIFT, FIXUP_SECTION_SIZE, OBJECT_COUNT, OBJECT_PAGE_TABLE, LX_SIGNATURE}
use Rattle.lx_model.specs.Reading.{first, number_at}
use Rattle.lx_model.specs.Header.{Row, row, rows, row_fault, is_lx_at, is_module_flags, header_place, header_fault, header_fields, field}
use Rattle.lx_model.specs.TableSpelling.{doublewords, header_spelling, AreDoublewords, HeaderFits}
use Rattle.lx_model.proofs.PlacesRead.{header_again}
use Rattle.lx_head.proofs.Places.{place_first}
use Rattle.lx_head.specs.Accepted.{Accepted, low_word, high_word}

-- ---- fields as they were written

-- the fields of a header, with its first one at hand
fits_of : (fields : List ℕ) → length fields ≡ 43 → AreDoublewords fields → get_or fields 0 0 ≡ LX_SIGNATURE → HeaderFits fields
fits_of [] count fit first = absurd (let none : 0 ≡ 43 = count in omega arith)
fits_of (f ∷ others) count fit first = record {
  others = others;
  signature = ap (λ (n : ℕ). n ∷ others) first;
  count = omega (arith, count);
  fit = fit;
}

pub again : (fields : List ℕ) → length fields ≡ 43 → AreDoublewords fields → Accepted fields → header_fields (header_spelling fields) ≡ fields
again fields count fit good = ap header_fields (sym (append-nil (header_spelling fields))) ∙ header_again fields [] (fits_of fields count fit good.signature)

length-doublewords : (fields : List ℕ) → length (doublewords fields) ≡ 4 * length fields
length-doublewords [] = refl
length-doublewords (f ∷ fields) =
    let rest = length-doublewords fields in
    omega (arith, rest)

length-spelling : (fields : List ℕ) → length fields ≡ 43 → length (header_spelling fields) ≡ 196
length-spelling fields count =
    let all : length (header_spelling fields) ≡ length (doublewords fields) + 24 = length-append (doublewords fields) (replicate 24 0) in
    let words = length-doublewords fields in
    omega (arith, all, words, count)

-- ---- rows

good_row : (file : List ℕ) (place : ℕ) (r : Row) → length file ≡ 196 → place ≡ 0 → r.offset + r.width ≤ 196 → r.allows (number_at r.width file (place + r.offset)) ≡ true → row_fault file place r ≡ None
good_row file place r long first within allowed =
    let room : ltb (length file) (place + r.offset + r.width) ≡ false = grind (arith, nat_tests) in
    rw (room, allowed) refl

all_good : (f : Row → Option LxRefusal) (rs : List Row) → AllByRecursion (λ r. f r ≡ None) rs → first (map f rs) ≡ None
all_good f [] good = refl
all_good f (r ∷ rs) good = rw (good.0) (all_good f rs good.1)

-- rows of a header at 0 that have no fault
record Good (file : List ℕ) (rs : List Row) : Type 0 where
  each : AllByRecursion (λ r. row_fault file 0 r ≡ None) rs

with_row : (file : List ℕ) (r : Row) (rs : List Row) → length file ≡ 196 → r.offset + r.width ≤ 196 → r.allows (number_at r.width file (0 + r.offset)) ≡ true → Good file rs → Good file (r ∷ rs)
with_row file r rs long within allowed others = record { each = (good_row file 0 r long refl within allowed, others.each) }

-- n fields that may have any value
with_any : (file : List ℕ) (offset : ℕ) (others : List Row) → length file ≡ 196 → Good file others → (n a : ℕ) → offset + 4 * (a + n) ≤ 196 → Good file (map (λ k. row (offset + 4 * k) 4 (λ _. true) Field) (range_with_len a n) ++ others)
with_any file offset others long good zero a within = good
with_any file offset others long good (suc n) a within = with_row file (row (offset + 4 * a) 4 (λ _. true) Field) (map (λ k. row (offset + 4 * k) 4 (λ _. true) Field) (range_with_len (a + 1) n) ++ others) long (omega arith) refl (with_any file offset others long good n (a + 1) (omega arith))

-- ---- the numbers in the rows

between : (n : ℕ) → 1 ≤ n → n ≤ 3 → (leb 1 n && leb n 3) ≡ true
between n low high = rw (le-leb 1 n low, le-leb n 3 high) refl

starts : (f g : ℕ) (others : List ℕ) → is_lx_at (header_spelling (LX_SIGNATURE ∷ f ∷ g ∷ others)) 0 ≡ true
starts f g others = refl

byte_order : (f g : ℕ) (others : List ℕ) → number_at 1 (header_spelling (LX_SIGNATURE ∷ f ∷ g ∷ others)) 2 ≡ 0
byte_order f g others = refl

word_order : (f g : ℕ) (others : List ℕ) → number_at 1 (header_spelling (LX_SIGNATURE ∷ f ∷ g ∷ others)) 3 ≡ 0
word_order f g others = refl

low : (f g : ℕ) (others : List ℕ) → number_at 2 (header_spelling (LX_SIGNATURE ∷ f ∷ g ∷ others)) 8 ≡ low_word g
low f g others = words_low g
  where
    words_low : (n : ℕ) → n % 256 + 256 * (n / 256 % 256 + 256 * 0) ≡ n % 65536
    words_low n = omega arith

high : (f g : ℕ) (others : List ℕ) → g < 2 ^ 32 → number_at 2 (header_spelling (LX_SIGNATURE ∷ f ∷ g ∷ others)) 10 ≡ high_word g
high f g others fits = words_high g fits
  where
    words_high : (n : ℕ) → n < 2 ^ 32 → n / 256 / 256 % 256 + 256 * (n / 256 / 256 / 256 % 256 + 256 * 0) ≡ n / 65536
    words_high n fits = omega arith

-- field k is the doubleword k
told : (fields : List ℕ) → length fields ≡ 43 → AreDoublewords fields → Accepted fields → header_place (header_spelling fields) ≡ 0 → (k : ℕ) → k < 43 → number_at 4 (header_spelling fields) (0 + 4 * k) ≡ get_or fields k 0
unfolding field
told fields count fit good place k lt =
    let file = header_spelling fields in
    let listed : get_or (map (λ j. field file (4 * j)) (range_with_len 0 43)) k 0 ≡ field file (4 * k) = get_or-map-range_with_len (λ j. field file (4 * j)) 0 43 k k 0 lt (omega arith) in
    let same : get_or (map (λ j. field file (4 * j)) (range_with_len 0 43)) k 0 ≡ get_or fields k 0 = ap (λ (xs : List ℕ). get_or xs k 0) (again fields count fit good) in
    ap (λ (p : ℕ). number_at 4 file (p + 4 * k)) (sym place) ∙ sym listed ∙ same

-- ---- the header

words_of : (f g : ℕ) (others : List ℕ) → length (LX_SIGNATURE ∷ f ∷ g ∷ others) ≡ 43 → AreDoublewords (LX_SIGNATURE ∷ f ∷ g ∷ others) → Accepted (LX_SIGNATURE ∷ f ∷ g ∷ others) → header_fault (header_spelling (LX_SIGNATURE ∷ f ∷ g ∷ others)) ≡ None
unfolding header_fault
words_of f g others count fit good =
    let fields = LX_SIGNATURE ∷ f ∷ g ∷ others in
    let file = header_spelling fields in
    let place : header_place file ≡ 0 = place_first file (starts f g others) in
    let long = length-spelling fields count in
    let at = told fields count fit good place in
    let heap = with_any file OBJECT_PAGE_TABLE [] long (record { each = tt }) 25 0 (omega arith) in
    let objects = with_row file (row OBJECT_COUNT 4 (λ v. leb v MAX_OBJECTS) TooMany) _ long (omega arith) (rw (at 17 (omega arith)) (le-leb _ _ good.objects)) heap in
    let tables = with_any file FIXUP_SECTION_SIZE _ long objects 5 0 (omega arith) in
    let shift = with_row file (row PAGE_OFFSET_SHIFT 4 (λ v. leb v 12) Field) _ long (omega arith) (rw (at 11 (omega arith)) (le-leb _ _ good.page_shift)) tables in
    let size = with_row file (row PAGE_SIZE_FIELD 4 (λ v. eqb v PAGE_SIZE) Field) _ long (omega arith) (eq-eqb _ _ (at 10 (omega arith) ∙ good.page_size)) shift in
    let start = with_any file EIP_OBJECT _ long size 4 0 (omega arith) in
    let pages = with_row file (row MODULE_PAGES 4 (λ v. leb v MAX_PAGES) TooMany) _ long (omega arith) (rw (at 5 (omega arith)) (le-leb _ _ good.pages)) start in
    let flags = with_row file (row MODULE_FLAGS 4 is_module_flags Field) _ long (omega arith) (rw (at 4 (omega arith)) good.flags) pages in
    let version = with_row file (row MODULE_VERSION 4 (λ _. true) Field) _ long (omega arith) refl flags in
    let system = with_row file (row SYSTEM_TYPE 2 (λ v. eqb v 1) Field) _ long (omega arith) (eq-eqb _ _ (high f g others fit.1.1.0 ∙ good.system)) version in
    let cpu = with_row file (row CPU_TYPE 2 (λ v. leb 1 v && leb v 3) Field) _ long (omega arith) (rw (low f g others) (between _ good.cpu.0 good.cpu.1)) system in
    let level = with_row file (row FORMAT_LEVEL 4 (λ v. eqb v 0) Field) _ long (omega arith) (eq-eqb _ _ (at 1 (omega arith) ∙ good.level)) cpu in
    let words = with_row file (row WORD_ORDER 1 (λ v. eqb v 0) Field) _ long (omega arith) (eq-eqb _ _ (word_order f g others)) level in
    let bytes = with_row file (row BYTE_ORDER 1 (λ v. eqb v 0) Field) _ long (omega arith) (eq-eqb _ _ (byte_order f g others)) words in
    let here : first (map (row_fault file 0) rows) ≡ None = all_good (row_fault file 0) rows bytes.each in
    rw place here

pub sound : (fields : List ℕ) → length fields ≡ 43 → AreDoublewords fields → Accepted fields → header_fault (header_spelling fields) ≡ None
sound [] count fit good = absurd (let none : 0 ≡ 43 = count in omega arith)
sound (e ∷ []) count fit good = absurd (let none : 1 ≡ 43 = count in omega arith)
sound (e ∷ f ∷ []) count fit good = absurd (let none : 2 ≡ 43 = count in omega arith)
sound (e ∷ f ∷ g ∷ others) count fit good =
    let signature : e ≡ LX_SIGNATURE = good.signature in
    let P : ℕ → Type 0 = λ n. length (n ∷ f ∷ g ∷ others) ≡ 43 → AreDoublewords (n ∷ f ∷ g ∷ others) → Accepted (n ∷ f ∷ g ∷ others) → header_fault (header_spelling (n ∷ f ∷ g ∷ others)) ≡ None in
    subst P (sym signature) (words_of f g others) count fit good
