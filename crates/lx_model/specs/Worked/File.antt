-- A worked file: the module that links one segment of eight zero bytes with a fixup to its own start. Its
-- page is zeros, so the file has no page data.
use Rattle.std.specs.Prelude.{◌≡◌, ℕ, ◌+◌, List, [], ◌∷◌, ◌++◌, length, map, take, drop, codes, Some, None}
use Rattle.std.specs.List.{flat_map, range_with_len}
use Rattle.lx_bytes.specs.LittleEndian.{little_bytes}
use Rattle.lx_types.specs.declared.object.PageKind.TheVariants.{Zero}
use Rattle.lx_types.specs.declared.parts.Parts.{Parts}
use Rattle.lx_types.specs.declared.bases.Bases.{Bases}
use Rattle.lx_types.specs.declared.refusal.LxRefusal.{LxRefusal}
use Rattle.lx_types.specs.declared.refusal.LxKind.TheVariants as kinds
use Rattle.lx_model.specs.Reading.{fault}
use Rattle.lx_model.specs.Module.{Lx, LxFault}
use Rattle.lx_model.specs.Fixed.{Fixed}

abbrev doublewords : List ℕ → List ℕ
doublewords ns = flat_map (little_bytes 4) ns

abbrev header : List ℕ
header = doublewords (
    -- 00h: LX, byte order and level, CPU and system, version, library, one page, no start, no stack
    0x584C ∷ 0 ∷ 0x10002 ∷ 0 ∷ 0x8000 ∷ 1 ∷ 0 ∷ 0 ∷ 0 ∷ 0
    -- 28h: the page size, the shift, sizes and checksums of the fixup and loader sections
    ∷ 4096 ∷ 0 ∷ 16 ∷ 0 ∷ 42 ∷ 0
    -- 40h: the object table, one object, the page table, iterated pages, resources
    ∷ 0xC4 ∷ 1 ∷ 0xDC ∷ 0xFE ∷ 0 ∷ 0
    -- 58h: resident names, entries, directives, the fixup page table, fixup records
    ∷ 0xE4 ∷ 0xED ∷ 0 ∷ 0 ∷ 0xEE ∷ 0xF6
    -- 70h: import modules, none; import procedures, page checksums, page data, preload pages
    ∷ 0xFD ∷ 0 ∷ 0xFD ∷ 0 ∷ 0xFE ∷ 0
    -- 88h: non-resident names, their length; then nothing
    ∷ 0xFE ∷ 9 ∷ 0 ∷ 0 ∷ 0 ∷ 0 ∷ 0 ∷ 0 ∷ 0 ∷ 0 ∷ 0 ∷ 0 ∷ 0 ∷ 0 ∷ 0 ∷ [])

-- the name IMAGE with ordinal 0, and the table's end
abbrev name_table : List ℕ
name_table = 5 ∷ codes "IMAGE" ++ 0 ∷ 0 ∷ 0 ∷ []

abbrev pub worked_file : List ℕ
worked_file =
    header
    -- C4h: size, linked base, flags, first page, page count
    ++ doublewords (8 ∷ 0x10000000 ∷ 0x2005 ∷ 1 ∷ 1 ∷ 0 ∷ [])
    -- DCh: a page of zeros
    ++ (0 ∷ 0 ∷ 0 ∷ 0 ∷ 0 ∷ 0 ∷ 3 ∷ 0 ∷ [])
    -- E4h, EDh: names, no entries
    ++ name_table ++ (0 ∷ [])
    -- EEh, F6h: the page's records, a doubleword at 4 to offset 0 of object 1
    ++ doublewords (0 ∷ 7 ∷ []) ++ (0x07 ∷ 0x00 ∷ 0x04 ∷ 0x00 ∷ 0x01 ∷ 0x00 ∷ 0x00 ∷ [])
    -- FDh: no import procedures
    ++ (0 ∷ [])
    -- FEh: names
    ++ name_table

abbrev pub worked_parts : Parts
worked_parts = record {
  file = worked_file;
  name = codes "IMAGE";
  flags = 0x8000;
  start = None;
  objects = record { size = 8; base = 0x10000000; flags = 0x2005; first = 1; count = 1 } ∷ [];
  pages = record { kind = Zero; at = 0; len = 0 } ∷ [];
  fix_spans = (0xF6, 0xFD) ∷ [];
  imports = [];
  procs_at = 0xFD;
  entries = [];
  names = [];
  refs = [];
}

-- the first bytes of the module's page where its object stands at a base
abbrev pub bytes_at : ℕ → List ℕ
bytes_at base =
    let bases : Bases = record { mods = record { «module» = 0; objects = base ∷ [] } ∷ [] } in
    map (Fixed (worked_parts ∷ []) 0 bases (record { object = 1; page = 0 })) (range_with_len 0 8)

pub record WorkedFile : Type 0 where
  pub meaning : Lx worked_file worked_parts
  pub linked : bytes_at 0x10000000 ≡ 0 ∷ 0 ∷ 0 ∷ 0 ∷ 0x00 ∷ 0x00 ∷ 0x00 ∷ 0x10 ∷ []
  pub moved : bytes_at 0x10030000 ≡ 0 ∷ 0 ∷ 0 ∷ 0 ∷ 0x00 ∷ 0x00 ∷ 0x03 ∷ 0x10 ∷ []

-- ---- its faults, after a change

-- a file with other bytes from a place on
abbrev pub put : List ℕ → ℕ → List ℕ → List ℕ
put file at bytes = take at file ++ bytes ++ drop (at + length bytes) file

abbrev pub changed : ℕ → List ℕ → List ℕ
changed at bytes = put worked_file at bytes

abbrev pub Accepts : List ℕ → Type 0
Accepts file = LxFault file ≡ None

abbrev pub Refuses : List ℕ → LxRefusal → Type 0
Refuses file e = LxFault file ≡ Some e

pub record WorkedFaults : Type 0 where
  pub empty : Refuses [] (fault kinds.Short 0x3C)
  pub signature : Refuses (changed 0 (0x4E ∷ [])) (fault kinds.Signature 0)
  pub header_cut : Refuses (take 0x42 worked_file) (fault kinds.Short 0x40)
  pub byte_order : Refuses (changed 2 (1 ∷ [])) (fault kinds.Field 2)
  pub driver : Refuses (changed 0x12 (2 ∷ [])) (fault kinds.Field 0x10)
  pub pages : Refuses (changed 0x14 (1 ∷ 0 ∷ 1 ∷ [])) (fault kinds.TooMany 0x14)
  pub objects : Refuses (changed 0x44 (1 ∷ 4 ∷ [])) (fault kinds.TooMany 0x44)
  pub object : Refuses (changed 0xD4 (2 ∷ [])) (fault kinds.Object 0xC4)
  pub page_kind : Refuses (changed 0xE2 (5 ∷ [])) (fault kinds.PageKind 0xDC)
  pub page_data : Refuses (changed 0xE0 (16 ∷ 0 ∷ 0 ∷ [])) (fault kinds.PageData 0xDC)
  pub too_long : Refuses (changed 0xDC (9 ∷ 0 ∷ 0 ∷ 0 ∷ 8 ∷ 0 ∷ 1 ∷ []) ++ 0x01 ∷ 0x04 ∷ 0x04 ∷ 0x00 ∷ 0xDE ∷ 0xAD ∷ 0xBE ∷ 0xEF ∷ [])
      (fault kinds.TooLong 0x107)
  pub name_table : Refuses (changed 0xE4 (0 ∷ [])) (fault kinds.NameTable 0xE4)
  pub others_cut : Refuses (changed 0x8C (8 ∷ [])) (fault kinds.Short 0x106)
  pub imports : Refuses (changed 0x74 (1 ∷ [])) (fault kinds.ImportTable 0xFD)
  pub entries : Refuses (changed 0xED (1 ∷ 5 ∷ [])) (fault kinds.EntryTable 0xED)
  pub start : Refuses (changed 0x18 (2 ∷ [])) (fault kinds.Field 0x18)
  pub fix_table : Refuses (changed 0xEE (9 ∷ [])) (fault kinds.FixTable 0xF2)
  pub source : Refuses (changed 0xF6 (9 ∷ [])) (fault kinds.BadSource 0xF6)
  pub target : Refuses (changed 0xFA (2 ∷ [])) (fault kinds.BadTarget 0xF6)
  pub straddle : Refuses (changed 0xF9 (0x10 ∷ [])) (fault kinds.Straddle 0xF8)
