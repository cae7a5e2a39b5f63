-- What a header without a fault says.
use Rattle.std.proofs.Common.{◌≡◌, ℕ, ◌+◌, ◌≤◌, ◌<◌, ◌^◌, Bool, true, false, cond, ltb, leb, List, map, length, Some, None, refl, ap, get_or, arith}
use Rattle.std.proofs.lemmas.Bool.{ltb-false, leb-true}
use Rattle.lx_types.specs.declared.refusal.LxRefusal.{LxRefusal}
use Rattle.lx_types.specs.declared.refusal.LxKind.TheVariants.{Short, Field, TooMany}
use Rattle.lx_types.specs.declared.limits.TheConstants.{MAX_PAGES, MAX_OBJECTS}
use Rattle.lx_model.specs.declared.header_fields.TheConstants.{MODULE_PAGES, PAGE_OFFSET_SHIFT, OBJECT_COUNT, HEAP_SIZE}
use Rattle.lx_model.specs.Reading.{fault, number_at, first}
use Rattle.lx_model.specs.Header.{row, rows, row_fault, place_fault, header_place, header_fault, header_fields, field}
use Rattle.lx_model.specs.Module.{IsRead, LxFault}
use Rattle.lx_model.proofs.Firsts.{then_none}
use Rattle.lx_model.proofs.Each.{each_first}
use Rattle.lx_types.specs.declared.parts.Parts.{Parts}
use Rattle.lx_head.specs.declared.head.Head.{Head}
use Rattle.res_bind.specs.Numbers.{HasHeader, IsHeadOf}

pub allowed : (short good : Bool) (a b : LxRefusal) → cond short (Some a) (cond good None (Some b)) ≡ None → good ≡ true
allowed true good a b is = absurd cc
allowed false true a b is = refl
allowed false false a b is = absurd cc

there : (short good : Bool) (a b : LxRefusal) → cond short (Some a) (cond good None (Some b)) ≡ None → short ≡ false
there true good a b is = absurd cc
there false good a b is = refl

pub header_good : (m : Parts) → IsRead m → header_fault m.file ≡ None
unfolding LxFault
header_good m read = (then_none (header_fault m.file) _ read.means.faultless).0

pub head_is : (file : List ℕ) (h : Head) → length file < 2 ^ 32 → header_fault file ≡ None → h.place ≡ header_place file → h.fields ≡ header_fields file → IsHeadOf file h
unfolding header_fault field
head_is file h short none place fields =
    let at = header_place file in
    let good = each_first (row_fault file at) rows (then_none (place_fault file) (first (map (row_fault file at) rows)) none).1 in
    let pages : row_fault file at (row MODULE_PAGES 4 (λ v. leb v MAX_PAGES) TooMany) ≡ None = good.1.1.1.1.1.1.1.0 in
    let shift : row_fault file at (row PAGE_OFFSET_SHIFT 4 (λ v. leb v 12) Field) ≡ None = good.1.1.1.1.1.1.1.1.1.1.1.1.1.0 in
    let objects : row_fault file at (row OBJECT_COUNT 4 (λ v. leb v MAX_OBJECTS) TooMany) ≡ None = good.1.1.1.1.1.1.1.1.1.1.1.1.1.1.1.1.1.1.1.0 in
    let last : row_fault file at (row HEAP_SIZE 4 (λ _. true) Field) ≡ None = good.1.1.1.1.1.1.1.1.1.1.1.1.1.1.1.1.1.1.1.1.1.1.1.1.1.1.1.1.1.1.1.1.1.1.1.1.1.1.1.1.1.1.1.1.0 in
    record {
      short = short;
      place = place;
      fields = fields;
      long = let le = ltb-false (length file) (at + HEAP_SIZE + 4) (there (ltb (length file) (at + HEAP_SIZE + 4)) true (fault Short (at + HEAP_SIZE)) (fault Field (at + HEAP_SIZE)) last) in omega (arith, le);
      shift = leb-true (number_at 4 file (at + PAGE_OFFSET_SHIFT)) 12 (allowed (ltb (length file) (at + PAGE_OFFSET_SHIFT + 4)) (leb (number_at 4 file (at + PAGE_OFFSET_SHIFT)) 12) (fault Short (at + PAGE_OFFSET_SHIFT)) (fault Field (at + PAGE_OFFSET_SHIFT)) shift);
      few_pages = leb-true (number_at 4 file (at + MODULE_PAGES)) MAX_PAGES (allowed (ltb (length file) (at + MODULE_PAGES + 4)) (leb (number_at 4 file (at + MODULE_PAGES)) MAX_PAGES) (fault Short (at + MODULE_PAGES)) (fault TooMany (at + MODULE_PAGES)) pages);
      few_objects = leb-true (number_at 4 file (at + OBJECT_COUNT)) MAX_OBJECTS (allowed (ltb (length file) (at + OBJECT_COUNT + 4)) (leb (number_at 4 file (at + OBJECT_COUNT)) MAX_OBJECTS) (fault Short (at + OBJECT_COUNT)) (fault TooMany (at + OBJECT_COUNT)) objects);
    }

-- the shift as the header has it
pub shift_of : (file : List ℕ) (h : Head) → IsHeadOf file h → get_or h.fields 11 0 ≤ 12
unfolding field
shift_of file h is =
    let same : get_or h.fields 11 0 ≡ number_at 4 file (header_place file + PAGE_OFFSET_SHIFT) = ap (λ (xs : List ℕ). get_or xs 11 0) is.fields in
    omega (arith, same, is.shift)

pub header_long : (file : List ℕ) → HasHeader file → header_place file + 0xAC ≤ length file
header_long file header = (head_is file (record { place = header_place file; fields = header_fields file }) header.short header.faultless refl refl).long
