-- The header of an LX module: where it stands, its fields, and what each may be.
-- "32-bit Linear eXecutable Module Format": "LX Header".
use Rattle.std.specs.Prelude.{ℕ, ◌+◌, ◌*◌, ◌==◌, ◌&&◌, ◌||◌, Bool, true, List, ◌∷◌, ◌++◌, length, map, Option, Some, None, nat_lt, nat_le, bit_and, if◌then◌else◌}
use Rattle.std.specs.List.{range_with_len}
use Rattle.lx_types.specs.declared.refusal.LxRefusal.{LxRefusal}
use Rattle.lx_types.specs.declared.refusal.LxKind.{LxKind}
use Rattle.lx_types.specs.declared.refusal.LxKind.TheVariants.{Signature, Short, Field, TooMany}
use Rattle.lx_types.specs.declared.object.TheConstants.{PAGE_SIZE}
use Rattle.lx_types.specs.declared.parts.TheConstants.{MODULE_KIND, MODULE_LIBRARY}
use Rattle.lx_types.specs.declared.limits.TheConstants.{MAX_PAGES, MAX_OBJECTS}
use Rattle.lx_model.specs.declared.header_fields.TheConstants.{BYTE_ORDER, WORD_ORDER, FORMAT_LEVEL, CPU_TYPE, SYSTEM_TYPE, MODULE_VERSION, MODULE_FLAGS, MODULE_PAGES, EIP_OBJECT, EIP, PAGE_SIZE_FIELD, PAGE_OFFSET_SHIFT, FIXUP_SECTION_SIZE, OBJECT_COUNT, OBJECT_PAGE_TABLE, IMPORT_MODULE_COUNT, LX_SIGNATURE, HEADER_PLACE}
use Rattle.lx_model.specs.Reading.{fault, number_at, first, ◌then◌}

-- ---- its place

-- `LX` stands at a place
abbrev pub is_lx_at : List ℕ → ℕ → Bool
is_lx_at file at = number_at 2 file at == LX_SIGNATURE

-- where the header stands: at 0, or where the doubleword at 3Ch of a DOS program says
unfoldable pub header_place : List ℕ → ℕ
header_place file = if is_lx_at file 0 then 0 else number_at 4 file HEADER_PLACE

abbrev pub place_fault : List ℕ → Option LxRefusal
place_fault file =
    if is_lx_at file 0 then None
    else if nat_lt (length file) (HEADER_PLACE + 4) then Some (fault Short HEADER_PLACE)
    else if is_lx_at file (header_place file) then None
    else Some (fault Signature (header_place file))

-- ---- its fields

-- a field: its offset in the header, how many bytes it has, what it may be, and what is wrong otherwise
pub record Row : Type 0 where
  pub offset : ℕ
  pub width : ℕ
  pub allows : ℕ → Bool
  pub kind : LxKind

abbrev pub row : ℕ → ℕ → (ℕ → Bool) → LxKind → Row
row offset width allows kind = record { offset = offset; width = width; allows = allows; kind = kind }

-- n doublewords, from an offset on, that may have any value
abbrev pub any_from : ℕ → ℕ → List Row
any_from offset n = map (λ k. row (offset + 4 * k) 4 (λ _. true) Field) (range_with_len 0 n)

-- the module is no protected-memory library or device driver, and it can be run
abbrev pub is_module_flags : ℕ → Bool
is_module_flags flags =
    let kind = bit_and flags MODULE_KIND in
    (bit_and flags 0x2000 == 0) && (kind == 0 || kind == MODULE_LIBRARY)

-- the fields in the order of their offsets
abbrev pub rows : List Row
rows =
    -- byte order and word order: little-endian; format level
    row BYTE_ORDER 1 (λ v. v == 0) Field
    ∷ row WORD_ORDER 1 (λ v. v == 0) Field
    ∷ row FORMAT_LEVEL 4 (λ v. v == 0) Field
    -- the CPU: 80286, 80386 or 80486; the system: OS/2
    ∷ row CPU_TYPE 2 (λ v. nat_le 1 v && nat_le v 3) Field
    ∷ row SYSTEM_TYPE 2 (λ v. v == 1) Field
    -- the module's version; the module flags; the number of pages
    ∷ row MODULE_VERSION 4 (λ _. true) Field
    ∷ row MODULE_FLAGS 4 is_module_flags Field
    ∷ row MODULE_PAGES 4 (λ v. nat_le v MAX_PAGES) TooMany
    -- EIP's and ESP's objects and offsets
    ∷ any_from EIP_OBJECT 4
    ++  -- the page size, and by how much the offsets of pages are shifted
    row PAGE_SIZE_FIELD 4 (λ v. v == PAGE_SIZE) Field
    ∷ row PAGE_OFFSET_SHIFT 4 (λ v. nat_le v 12) Field
    -- sizes and checksums of the fixup and loader sections; the object table
    ∷ any_from FIXUP_SECTION_SIZE 5
    ++  -- the number of objects
    row OBJECT_COUNT 4 (λ v. nat_le v MAX_OBJECTS) TooMany
    -- from the object page table to the heap
    ∷ any_from OBJECT_PAGE_TABLE 25

-- A field that passes the file's end is short. Of the others each has to be what its row allows.
abbrev pub row_fault : List ℕ → ℕ → Row → Option LxRefusal
row_fault file place r =
    let at = place + r.offset in
    if nat_lt (length file) (at + r.width) then Some (fault Short at)
    else if r.allows (number_at r.width file at) then None
    else Some (fault r.kind at)

-- the first fault of the header, by offset
unfoldable pub header_fault : List ℕ → Option LxRefusal
header_fault file = place_fault file then first (map (row_fault file (header_place file)) rows)

-- ---- what its fields say

-- the doubleword at an offset of the header
unfoldable pub field : List ℕ → ℕ → ℕ
field file offset = number_at 4 file (header_place file + offset)

-- where a table stands whose offset from the header is in a field
abbrev pub table : List ℕ → ℕ → ℕ
table file offset = header_place file + field file offset

-- the doublewords at the offsets 00h to A8h
abbrev pub header_fields : List ℕ → List ℕ
header_fields file = map (λ k. field file (4 * k)) (range_with_len 0 43)

abbrev pub page_count : List ℕ → ℕ
page_count file = field file MODULE_PAGES

abbrev pub object_count : List ℕ → ℕ
object_count file = field file OBJECT_COUNT

abbrev pub import_count : List ℕ → ℕ
import_count file = field file IMPORT_MODULE_COUNT

-- ---- the start, which is judged after the tables

-- EIP's object is 0 where there is no start
abbrev pub start_of : List ℕ → Option (ℕ × ℕ)
start_of file = if field file EIP_OBJECT == 0 then None else Some (field file EIP_OBJECT, field file EIP)

abbrev pub start_fault : List ℕ → Option LxRefusal
start_fault file = if nat_le (field file EIP_OBJECT) (object_count file) then None else Some (fault Field (header_place file + EIP_OBJECT))
