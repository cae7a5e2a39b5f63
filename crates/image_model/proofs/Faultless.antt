-- A written file has no fault in its header, its names, its imports, its entries and its start.
use Rattle.std.proofs.Common.{◌≡◌, ℕ, zero, suc, ◌+◌, ◌<◌, ◌≤◌, ◌^◌, Bool, true, false, List, [], ◌∷◌, length, map, Option, Some, None, Result, Ok, Err, refl, sym, subst, ap, ◌∙◌, arith, inl, inr}
use Rattle.std.specs.Prelude.{◌≢◌, nat_lt, nat_le, if◌then◌else◌, IfSome}
use Rattle.std.specs.List.{range_with_len, AllByRecursion as Each}
use Rattle.std.proofs.lemmas.Bool.{cases_lt, le-leb, le-ltb}
use Rattle.lx_types.specs.declared.refusal.LxRefusal.{LxRefusal}
use Rattle.lx_types.specs.declared.refusal.LxKind.TheVariants.{Short, Field}
use Rattle.lx_types.specs.Sound.{IsNumberOf}
use Rattle.lx_types.specs.declared.limits.TheConstants.{MAX_PAGES, MAX_OBJECTS}
use Rattle.lx_model.specs.declared.lengths.TheConstants.{HEADER_LEN}
use Rattle.lx_model.specs.declared.header_fields.TheConstants.{EIP_OBJECT, MODULE_FLAGS, MODULE_PAGES, OBJECT_COUNT}
use Rattle.lx_model.specs.Reading.{fault, number_at, short_at, first, ◌then◌, fault_of}
use Rattle.lx_model.specs.Header.{Row, row_fault, rows, header_place, field, place_fault, header_fault, object_count, start_fault, is_module_flags}
use Rattle.lx_model.specs.NameTables.{Named, lacks_name, resident_fault, others_fault, imports_fault}
use Rattle.lx_model.specs.EntryTable.{entries_fault}
use Rattle.image_model.specs.Image.{Image}
use Rattle.image_model.specs.File.{file_of, header_fields_of, object_field}
use Rattle.image_model.specs.ReadBack.{ImageFits}
use Rattle.image_model.proofs.Fields.{tables, place_read}
use Rattle.image_model.proofs.Places.{file_long}
use Rattle.image_model.proofs.SectionsRead.{sections_read}

-- ---- tests that are known

pub otherwise : {A : Type 0} (b : Bool) (x y : A) → b ≡ false → (if b then x else y) ≡ y
otherwise b x y is = ap (λ (c : Bool). if c then x else y) is

pub then_this : {A : Type 0} (b : Bool) (x y : A) → b ≡ true → (if b then x else y) ≡ x
then_this b x y is = ap (λ (c : Bool). if c then x else y) is

-- ---- no fault in any of a list

pub none_first : {A B : Type 0} (f : B → Option A) (xs : List B) → Each (λ x. f x ≡ None) xs → first (map f xs) ≡ None
none_first f [] are = refl
none_first {A} f (x ∷ xs) are = ap (λ (o : Option A). first (o ∷ map f xs)) are.0 ∙ none_first f xs are.1

pub all_none : {A : Type 0} (f : ℕ → Option A) (a n : ℕ) → ((k : ℕ) → a ≤ k → k < a + n → f k ≡ None) → first (map f (range_with_len a n)) ≡ None
all_none f a zero none = refl
all_none {A} f a (suc n) none =
    ap (λ (o : Option A). first (o ∷ map f (range_with_len (a + 1) n))) (none a (omega arith) (omega arith))
    ∙ all_none f (a + 1) n (λ k low high. none k (omega (arith, low)) (omega (arith, high)))

-- what holds of each item of a list that is given by numbers holds of what a number gives
pub each_at : {X : Type 0} (P : X → Type 0) (f : ℕ → X) (a n k : ℕ) → Each P (map f (range_with_len a n)) → a ≤ k → k < a + n → P (f k)
each_at P f a zero k each low high = absurd (omega (arith, low, high))
each_at P f a (suc n) k each low high =
    elim (cases_lt a k) [
      | inl lt ↦ each_at P f (a + 1) n k each.1 (omega (arith, lt)) (omega (arith, high))
      | inr ge ↦ let same : a ≡ k = omega (arith, ge, low) in subst (λ (j : ℕ). P (f j)) same each.0
    ]

pub not_short : (n : ℕ) (file : List ℕ) (at : ℕ) → at + n ≤ length file → short_at n file at ≡ None
not_short n file at le = otherwise (nat_lt (length file) (at + n)) (Some (fault Short at)) None (le-ltb (length file) (at + n) le)

pub after_none : {A : Type 0} (a b : Option A) → a ≡ None → b ≡ None → (a then b) ≡ None
after_none {A} a b is that = ap (λ (o : Option A). o then b) is ∙ that

-- ---- the header

-- a field that lies in the header and has a value that is allowed
record Good (file : List ℕ) (r : Row) : Type 0 where
  within : r.offset + r.width ≤ HEADER_LEN
  allowed : r.allows (number_at r.width file (0 + r.offset)) ≡ true

row_good : (file : List ℕ) (r : Row) → HEADER_LEN ≤ length file → Good file r → row_fault file 0 r ≡ None
row_good file r long good =
    let inside = good.within in
    otherwise (nat_lt (length file) (0 + r.offset + r.width)) (Some (fault Short (0 + r.offset))) (if r.allows (number_at r.width file (0 + r.offset))
    then None else Some (fault r.kind (0 + r.offset))) (le-ltb (length file) (0 + r.offset + r.width) (omega (arith, long, inside)))
    ∙ then_this (r.allows (number_at r.width file (0 + r.offset))) None (Some (fault r.kind (0 + r.offset))) good.allowed

rows_good : (file : List ℕ) (rs : List Row) → HEADER_LEN ≤ length file → Each (Good file) rs → Each (λ r. row_fault file 0 r ≡ None) rs
rows_good file [] long good = tt
rows_good file (r ∷ rs) long good = (row_good file r long good.0, rows_good file rs long good.1)

header_long : (m : Image) → HEADER_LEN ≤ length (file_of m)
header_long m = omega (arith, file_long m)

by_place : (m : Image) (offset : ℕ) → number_at 4 (file_of m) (0 + offset) ≡ field (file_of m) offset
unfolding field
by_place m offset = ap (λ (n : ℕ). number_at 4 (file_of m) (n + offset)) (sym (place_read m))

flags_allowed : (m : Image) → ImageFits m → is_module_flags (number_at 4 (file_of m) (0 + MODULE_FLAGS)) ≡ true
flags_allowed m fits = ap is_module_flags (by_place m MODULE_FLAGS ∙ (tables m fits).flags) ∙ fits.kind

pages_allowed : (m : Image) → ImageFits m → nat_le (number_at 4 (file_of m) (0 + MODULE_PAGES)) MAX_PAGES ≡ true
pages_allowed m fits = ap (λ (n : ℕ). nat_le n MAX_PAGES) (by_place m MODULE_PAGES ∙ (tables m fits).page_number) ∙ le-leb (length m.pages) MAX_PAGES fits.few_pages

objects_allowed : (m : Image) → ImageFits m → nat_le (number_at 4 (file_of m) (0 + OBJECT_COUNT)) MAX_OBJECTS ≡ true
objects_allowed m fits = ap (λ (n : ℕ). nat_le n MAX_OBJECTS) (by_place m OBJECT_COUNT ∙ (tables m fits).object_number) ∙ le-leb (length m.objects) MAX_OBJECTS fits.few_objects

all_good : (m : Image) → ImageFits m → Each (Good (file_of m)) rows
unfolding file_of header_fields_of
all_good m fits = (record { within = omega arith; allowed = refl }, (record { within = omega arith; allowed = refl }, (record { within = omega arith; allowed = refl }, (record { within = omega arith; allowed = refl }, (record { within = omega arith; allowed = refl }, (record { within = omega arith; allowed = refl }, (record { within = omega arith; allowed = flags_allowed m fits }, (record { within = omega arith; allowed = pages_allowed m fits }, (record { within = omega arith; allowed = refl }, (record { within = omega arith; allowed = refl }, (record { within = omega arith; allowed = refl }, (record { within = omega arith; allowed = refl }, (record { within = omega arith; allowed = refl }, (record { within = omega arith; allowed = refl }, (record { within = omega arith; allowed = refl }, (record { within = omega arith; allowed = refl }, (record { within = omega arith; allowed = refl }, (record { within = omega arith; allowed = refl }, (record { within = omega arith; allowed = refl }, (record { within = omega arith; allowed = objects_allowed m fits }, (record { within = omega arith; allowed = refl }, (record { within = omega arith; allowed = refl }, (record { within = omega arith; allowed = refl }, (record { within = omega arith; allowed = refl }, (record { within = omega arith; allowed = refl }, (record { within = omega arith; allowed = refl }, (record { within = omega arith; allowed = refl }, (record { within = omega arith; allowed = refl }, (record { within = omega arith; allowed = refl }, (record { within = omega arith; allowed = refl }, (record { within = omega arith; allowed = refl }, (record { within = omega arith; allowed = refl }, (record { within = omega arith; allowed = refl }, (record { within = omega arith; allowed = refl }, (record { within = omega arith; allowed = refl }, (record { within = omega arith; allowed = refl }, (record { within = omega arith; allowed = refl }, (record { within = omega arith; allowed = refl }, (record { within = omega arith; allowed = refl }, (record { within = omega arith; allowed = refl }, (record { within = omega arith; allowed = refl }, (record { within = omega arith; allowed = refl }, (record { within = omega arith; allowed = refl }, (record { within = omega arith; allowed = refl }, (record { within = omega arith; allowed = refl }, tt)))))))))))))))))))))))))))))))))))))))))))))

no_place_fault : (m : Image) → place_fault (file_of m) ≡ None
unfolding file_of header_fields_of
no_place_fault m = refl

pub header_faultless : (m : Image) → ImageFits m → header_fault (file_of m) ≡ None
unfolding header_fault
header_faultless m fits =
    after_none (place_fault (file_of m)) (first (map (row_fault (file_of m) (header_place (file_of m))) rows)) (no_place_fault m)
    (ap (λ (n : ℕ). first (map (row_fault (file_of m) n) rows)) (place_read m) ∙ none_first (row_fault (file_of m) 0) rows (rows_good (file_of m) rows (header_long m) (all_good m fits)))

-- ---- names, imports, entries, start

named_first : (file : List ℕ) (names : List Named) → names ≢ [] → lacks_name file names ≡ None
named_first file [] some = absurd (some refl)
named_first file (name ∷ names) some = refl

pub residents_faultless : (m : Image) → ImageFits m → resident_fault (file_of m) ≡ None
residents_faultless m fits =
    ap (λ (r : Result (List Named) LxRefusal). elim r [ Ok names ↦ lacks_name (file_of m) names | Err e ↦ Some e ]) (sections_read m fits).residents
    ∙ named_first (file_of m) m.residents fits.named

pub others_faultless : (m : Image) → ImageFits m → others_fault (file_of m) ≡ None
others_faultless m fits = ap fault_of (sections_read m fits).others

pub imports_faultless : (m : Image) → ImageFits m → imports_fault (file_of m) ≡ None
imports_faultless m fits = ap fault_of (sections_read m fits).imports

pub entries_faultless : (m : Image) → ImageFits m → entries_fault (file_of m) ≡ None
entries_faultless m fits = ap fault_of (sections_read m fits).entries

start_there : (count : ℕ) (start : Option (ℕ × ℕ)) → IfSome start (λ place. IsNumberOf place.0 count × (place.1 < 2 ^ 32)) → object_field start ≤ count
start_there count None fits = omega arith
start_there count (Some place) fits = fits.0.1

pub start_faultless : (m : Image) → ImageFits m → start_fault (file_of m) ≡ None
start_faultless m fits =
    let file = file_of m in
    let t = tables m fits in
    then_this (nat_le (field file EIP_OBJECT) (object_count file)) None (Some (fault Field (header_place file + EIP_OBJECT)))
    (ap (λ (n : ℕ). nat_le n (object_count file)) t.start_object ∙ ap (λ (n : ℕ). nat_le (object_field m.start) n) t.object_number
    ∙ le-leb (object_field m.start) (length m.objects) (start_there (length m.objects) m.start fits.start))
