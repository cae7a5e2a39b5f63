-- The one file of a written module: its header and its sections.
-- "32-bit Linear eXecutable Module Format": "LX Header".
use Rattle.std.specs.Prelude.{ℕ, List, [], ◌∷◌, ◌++◌, length, Option, Some, None}
use Rattle.lx_types.specs.declared.object.TheConstants.{PAGE_SIZE}
use Rattle.lx_model.specs.declared.header_fields.TheConstants.{LX_SIGNATURE}
use Rattle.lx_model.specs.TableSpelling.{header_spelling}
use Rattle.image_model.specs.Image.{Image}
use Rattle.image_model.specs.Sections.{Sections, sections, objects_at, pages_at, residents_at, entries_at, spans_at, records_at, imports_at, procs_at, data_at, others_at, loader_size, fixup_size}

-- An object and an offset: 0 and 0 where there is no such place.
abbrev pub object_field : Option (ℕ × ℕ) → ℕ
object_field (Some place) = place.0
object_field None = 0

abbrev pub offset_field : Option (ℕ × ℕ) → ℕ
offset_field (Some place) = place.1
offset_field None = 0

-- The doublewords at 00h to A8h. Places of tables count from the header, which stands at the file's begin.
unfoldable pub header_fields_of : Image → Sections → List ℕ
header_fields_of m s =
    -- 00h: `LX`, little-endian bytes and words; the format level; an 80386 and OS/2; the module's version; module flags;
    -- the number of pages
    LX_SIGNATURE ∷ 0 ∷ 0x10002 ∷ 0 ∷ m.flags ∷ length m.pages
    -- 18h, 20h: EIP's object and offset, and ESP's
    ∷ object_field m.start ∷ offset_field m.start ∷ object_field m.stack ∷ offset_field m.stack
    -- 28h: the page size; offsets of pages are not shifted; the sizes of the fixup and loader sections, each with a checksum
    -- that is not used
    ∷ PAGE_SIZE ∷ 0 ∷ fixup_size s ∷ 0 ∷ loader_size s ∷ 0
    -- 40h: the object table, its length, the page table; iterated pages stand among the data pages
    ∷ objects_at s ∷ length m.objects ∷ pages_at s ∷ data_at s
    -- 50h: no resources; resident names; the entry table; no directives
    ∷ 0 ∷ 0 ∷ residents_at s ∷ entries_at s ∷ 0 ∷ 0
    -- 68h: the fixup page table, the records, the import modules and how many there are, the import procedures; no page
    -- checksums
    ∷ spans_at s ∷ records_at s ∷ imports_at s ∷ length m.imports ∷ procs_at s ∷ 0
    -- 80h: the data pages; no preloaded ones; the non-resident names, their length, and a checksum that is not used
    ∷ data_at s ∷ 0 ∷ others_at s ∷ length s.others ∷ 0
    -- 94h: the automatic data object; no debug data and no instance pages; the heap
    ∷ m.auto ∷ 0 ∷ 0 ∷ 0 ∷ 0 ∷ m.heap ∷ []

abbrev pub sections_bytes : Sections → List ℕ
sections_bytes s =
    s.objects ++ (s.pages ++ (s.residents ++ (s.entries ++ (s.spans ++ (s.records ++ (s.imports ++ (s.procs ++ (s.contents ++ s.others))))))))

unfoldable pub file_of : Image → List ℕ
file_of m = header_spelling (header_fields_of m (sections m)) ++ sections_bytes (sections m)
