-- The places of sections, and the doublewords of the header.
use Rattle.std.proofs.Common.{◌≡◌, ℕ, suc, ◌+◌, ◌-◌, Option, Some, None, List, [], ◌∷◌, ◌++◌, length, refl, sym, ap, ◌∙◌, append_assoc, arith}
use Rattle.std.specs.Option.{unwrap_or}
use Rattle.image_model.specs.Sections.{Sections, sections, objects_at, pages_at, residents_at, entries_at, spans_at, records_at, imports_at, procs_at, data_at, others_at, loader_size, fixup_size}
use Rattle.image_model.specs.File.{object_field, offset_field, header_fields_of, file_of, sections_bytes}
use Rattle.image_model.specs.Image.{Image}
use Rattle.image_model.specs.ObjectTable.{object_heads_from}
use Rattle.image_model.proofs.Places.{file_long}
use Rattle.link_model.specs.Records.{page_count}
use Rattle.link_model.specs.declared.symbols.LaidObject.{LaidObject}
use Rattle.lx_types.specs.declared.object.TheConstants.{PAGE_SIZE}
use Rattle.lx_model.specs.declared.lengths.TheConstants.{HEADER_LEN}
use Rattle.lx_model.specs.declared.header_fields.TheConstants.{LX_SIGNATURE}
use Rattle.lx_model.specs.TableSpelling.{header_spelling}

pub object_of : (o : Option (ℕ × ℕ)) → (unwrap_or o (0, 0)).0 ≡ object_field o
object_of None = refl
object_of (Some place) = refl

pub offset_of : (o : Option (ℕ × ℕ)) → (unwrap_or o (0, 0)).1 ≡ offset_field o
offset_of None = refl
offset_of (Some place) = refl

pub fixups_long : (s : Sections) → data_at s - spans_at s ≡ fixup_size s
fixups_long s = omega arith

pub loader_long : (s : Sections) → spans_at s - objects_at s ≡ loader_size s
loader_long s = omega arith

pub others_long : (s : Sections) → others_at s + length s.others - others_at s ≡ length s.others
others_long s = omega arith

-- ---- sections that are joined, one after the other

pub more : (file after section slice rest whole : List ℕ) → file ++ (section ++ rest) ≡ whole → slice ≡ section → after ≡ file ++ slice → after ++ rest ≡ whole
more file after section slice rest whole left same added = ap (λ bs. bs ++ rest) (added ∙ ap (λ bs. file ++ bs) same) ∙ append_assoc file section rest ∙ left

pub last : (file after section slice whole : List ℕ) → file ++ section ≡ whole → slice ≡ section → after ≡ file ++ slice → after ≡ whole
last file after section slice whole left same added = added ∙ ap (λ bs. file ++ bs) same ∙ left

-- ---- the header

-- The doublewords, from the numbers that are computed and their meanings.
pub fields_are : (m : Image) (s : Sections) (flags pages start_object start stack_object stack fixups loader objects pages_place data_place residents_place entries_place spans_place records_place imports_place imports procs_place others_place others : ℕ) →
    flags ≡ m.flags → pages ≡ length m.pages → start_object ≡ object_field m.start → start ≡ offset_field m.start → stack_object ≡ object_field m.stack → stack ≡ offset_field m.stack →
    fixups ≡ fixup_size s → loader ≡ loader_size s → objects ≡ length m.objects → pages_place ≡ pages_at s → data_place ≡ data_at s → residents_place ≡ residents_at s → entries_place ≡ entries_at s →
    spans_place ≡ spans_at s → records_place ≡ records_at s → imports_place ≡ imports_at s → imports ≡ length m.imports → procs_place ≡ procs_at s → others_place ≡ others_at s → others ≡ length s.others →
    LX_SIGNATURE ∷ 0 ∷ 0x10002 ∷ 0 ∷ flags ∷ pages ∷ start_object ∷ start ∷ stack_object ∷ stack ∷ PAGE_SIZE ∷ 0 ∷ fixups ∷ 0 ∷ loader ∷ 0
    ∷ HEADER_LEN ∷ objects ∷ pages_place ∷ data_place ∷ 0 ∷ 0 ∷ residents_place ∷ entries_place ∷ 0 ∷ 0 ∷ spans_place ∷ records_place ∷ imports_place ∷ imports ∷ procs_place ∷ 0
    ∷ data_place ∷ 0 ∷ others_place ∷ others ∷ 0 ∷ m.auto ∷ 0 ∷ 0 ∷ 0 ∷ 0 ∷ m.heap ∷ [] ≡ header_fields_of m s
unfolding header_fields_of
fields_are m s flags pages start_object start stack_object stack fixups loader objects pages_place data_place residents_place entries_place spans_place records_place imports_place imports procs_place others_place others e1 e2 e3 e4 e5 e6 e7 e8 e9 e10 e11 e12 e13 e14 e15 e16 e17 e18 e19 e20 =
    rw (e1, e2, e3, e4, e5, e6, e7, e8, e9, e10, e11, e12, e13, e14, e15, e16, e17, e18, e19, e20) refl

pub objects_counted : (os : List LaidObject) (first : ℕ) → length (object_heads_from first os) ≡ length os
objects_counted [] first = refl
objects_counted (o ∷ os) first = ap suc (objects_counted os (first + page_count o.size))

-- ---- the whole file

pub file_is : (m : Image) (s : Sections) (fields file : List ℕ) → fields ≡ header_fields_of m s → s ≡ sections m → file ≡ header_spelling fields ++ sections_bytes s → file ≡ file_of m
unfolding file_of
file_is m s fields file head same is =
    is ∙ ap (λ fs. header_spelling fs ++ sections_bytes s) head ∙ ap (λ t. header_spelling (header_fields_of m t) ++ sections_bytes t) same

pub file_ends : (m : Image) (s : Sections) (file : List ℕ) (end : ℕ) → s ≡ sections m → file ≡ file_of m → end ≡ others_at s + length s.others → length file ≡ end
file_ends m s file end same is ends =
    let long = file_long m in
    ap length is ∙ (omega (arith, long)) ∙ ap (λ t. others_at t + length t.others) (sym same) ∙ sym ends

pub sections_are : (m : Image) (objects pages residents entries spans records imports procs contents others : List ℕ) →
    objects ≡ (sections m).objects → pages ≡ (sections m).pages → residents ≡ (sections m).residents → entries ≡ (sections m).entries → spans ≡ (sections m).spans → records ≡ (sections m).records →
    imports ≡ (sections m).imports → procs ≡ (sections m).procs → contents ≡ (sections m).contents → others ≡ (sections m).others →
    record { objects = objects; pages = pages; residents = residents; entries = entries; spans = spans; records = records; imports = imports; procs = procs; contents = contents; others = others } ≡ sections m
unfolding sections
sections_are m objects pages residents entries spans records imports procs contents others e1 e2 e3 e4 e5 e6 e7 e8 e9 e10 = rw (e1, e2, e3, e4, e5, e6, e7, e8, e9, e10) refl
