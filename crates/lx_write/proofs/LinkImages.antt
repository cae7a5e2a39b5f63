-- An image that has the parts of a link is the link's module.
use Rattle.std.proofs.Common.{◌≡◌, ℕ, ◌+◌, Bool, true, false, Option, List, map, refl, ap, ◌∙◌}
use Rattle.std.specs.Prelude.{not, bit_or}
use Rattle.std.specs.List.{flat_map}
use Rattle.lx_types.specs.declared.fix.Fix.{Fix}
use Rattle.lx_types.specs.declared.object.ObjHead.{ObjHead}
use Rattle.lx_types.specs.declared.parts.TheConstants.{MODULE_LIBRARY, MODULE_INIT_EACH, MODULE_TERM_EACH}
use Rattle.link_model.specs.Link.{Link}
use Rattle.link_model.specs.Order.{is_program}
use Rattle.link_model.specs.Flags.{flag}
use Rattle.link_model.specs.ImportTables.{with_offset}
use Rattle.lx_model.specs.NameTables.{Named}
use Rattle.lx_model.specs.Bundles.{Bundle}
use Rattle.lx_model.specs.ExportTables.{resident_table, other_table}
use Rattle.lx_model.specs.JoinedEntries.{bundles_for}
use Rattle.lx_model.specs.JoinedRecords.{records_for}
use Rattle.lx_model.specs.RecordSpelling.{Written}
use Rattle.image_model.specs.Image as written
use Rattle.image_model.specs.PageForms.{pages_in, form_of_page}
use Rattle.image_model.specs.ObjectTable.{object_heads_from}
use Rattle.image_model.specs.Linked as links
use Rattle.image_model.specs.Linked.{image_of, module_flags, page_forms, fixup_records, called}
use Rattle.image_model.specs.Exported as exported
use Rattle.lx_exports.specs.Exports.{exported_of}
use Rattle.lx_write.specs.declared.image.Image.{Image}
use Rattle.lx_write.specs.Value.{image_value, flags_of, page_fixes}
use Rattle.lx_write.specs.LinkImages.{IsImageOfLink, LinkImagesAreWritten}

flags_joined : (library init term : Bool) →
    bit_or (flag library MODULE_LIBRARY) (flag init MODULE_INIT_EACH + flag term MODULE_TERM_EACH) ≡ flag library MODULE_LIBRARY + flag init MODULE_INIT_EACH + flag term MODULE_TERM_EACH
flags_joined true true true = refl
flags_joined true true false = refl
flags_joined true false true = refl
flags_joined true false false = refl
flags_joined false true true = refl
flags_joined false true false = refl
flags_joined false false true = refl
flags_joined false false false = refl

flags_are : (l : Link) (m : Image) → IsImageOfLink l m → flags_of m ≡ module_flags l.def
flags_are l m is =
    ap (λ kind. bit_or (flag (not (is_program kind)) MODULE_LIBRARY) m.flags) is.kind ∙ ap (bit_or (flag (not (is_program l.def.kind)) MODULE_LIBRARY)) is.flags
    ∙ flags_joined (not (is_program l.def.kind)) l.def.init_each l.def.term_each

abbrev fix_with : List (List ℕ) → Fix → Fix
fix_with names f = record f { target = with_offset names f.target }

-- the fixups of pages, with the offsets of these names
abbrev fixes_with : List (List ℕ) → List (List (List Fix)) → List (List Fix)
fixes_with names objects = map (map (fix_with names)) (flat_map (λ pages. pages) objects)

records_are : (l : Link) (m : Image) → IsImageOfLink l m → map records_for (page_fixes m) ≡ fixup_records l
unfolding page_fixes fixup_records links.page_fixes
records_are l m is =
    ap (λ names. map records_for (fixes_with names m.fixes)) is.procs ∙ ap (λ objects. map records_for (fixes_with (links.link_procs l) objects)) is.fixes

pages_are : (l : Link) (m : Image) → IsImageOfLink l m → map form_of_page (flat_map pages_in m.bytes) ≡ page_forms l
unfolding page_forms
pages_are l m is = ap (λ objects. map form_of_page (flat_map pages_in objects)) is.bytes

residents_are : (l : Link) (m : Image) → IsImageOfLink l m → resident_table m.name (exported_of m.exports) ≡ resident_table (called l) (exported.exported_of l)
residents_are l m is = ap (λ name. resident_table name (exported_of m.exports)) is.name ∙ ap (resident_table (called l)) is.exports

others_are : (l : Link) (m : Image) → IsImageOfLink l m → other_table m.name m.about (exported_of m.exports) ≡ other_table (called l) l.def.about (exported.exported_of l)
others_are l m is =
    ap (λ name. other_table name m.about (exported_of m.exports)) is.name ∙ ap (λ about. other_table (called l) about (exported_of m.exports)) is.about
    ∙ ap (other_table (called l) l.def.about) is.exports

-- one module from equal parts
parts_same : (flags flags' : ℕ) (start start' stack stack' : Option (ℕ × ℕ)) (auto auto' heap heap' : ℕ) (objects objects' : List ObjHead) (pages pages' : List written.PageForm) (records records' : List (List Written))
    (residents residents' others others' : List Named) (entries entries' : List Bundle) (imports imports' procs procs' : List (List ℕ)) →
    flags ≡ flags' → start ≡ start' → stack ≡ stack' → auto ≡ auto' → heap ≡ heap' → objects ≡ objects' → pages ≡ pages' → records ≡ records' →
    residents ≡ residents' → others ≡ others' → entries ≡ entries' → imports ≡ imports' → procs ≡ procs' →
    ◌≡◌ {A = written.Image}
    (record { flags = flags; start = start; stack = stack; auto = auto; heap = heap; objects = objects; pages = pages; records = records; residents = residents; others = others; entries = entries; imports = imports; procs = procs })
    (record { flags = flags'; start = start'; stack = stack'; auto = auto'; heap = heap'; objects = objects'; pages = pages'; records = records'; residents = residents'; others = others'; entries = entries'; imports = imports'; procs = procs' })
parts_same flags flags' start start' stack stack' auto auto' heap heap' objects objects' pages pages' records records' residents residents' others others' entries entries' imports imports' procs procs' e1 e2 e3 e4 e5 e6 e7 e8 e9 e10 e11 e12 e13 =
    rw (e1, e2, e3, e4, e5, e6, e7, e8, e9, e10, e11, e12, e13) refl

pub link_images : LinkImagesAreWritten
unfolding image_value image_of
link_images l m is =
    parts_same _ _ _ _ _ _ _ _ _ _ _ _ _ _ _ _ _ _ _ _ _ _ _ _ _ _
    (flags_are l m is) is.start is.stack is.auto is.heap (ap (object_heads_from 1) is.objects) (pages_are l m is) (records_are l m is)
    (residents_are l m is) (others_are l m is) (ap bundles_for is.exports) is.imports is.procs
