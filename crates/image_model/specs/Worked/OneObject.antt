-- A worked link: one segment of eight zero bytes with a 32-bit reference to its own start, linked with the definition file
-- `LIBRARY D`.
use Rattle.std.specs.Prelude.{◌≡◌, ℕ, List, [], ◌∷◌, ◌++◌, None, Some, codes, replicate}
use Rattle.std.specs.List.{flat_map}
use Rattle.lx_bytes.specs.LittleEndian.{little_bytes}
use Rattle.obj_types.specs.declared.definition.ModKind.TheVariants.{Library}
use Rattle.obj_types.specs.Defaults.{default_def}
use Rattle.link_model.specs.Link.{Link}
use Rattle.link_model.specs.OneSegment.{one_segment}
use Rattle.image_model.specs.File.{file_of}
use Rattle.image_model.specs.Linked.{image_of}

abbrev pub one_object : Link
one_object = record {
  modules = one_segment (codes "a") (replicate 8 0) (4 ∷ []) ∷ [];
  def = record (default_def Library None) { name = Some (codes "D") };
  stem = codes "D";
  clash = None;
}

abbrev doublewords : List ℕ → List ℕ
doublewords ns = flat_map (little_bytes 4) ns

abbrev pub one_object_bytes : List ℕ
one_object_bytes =
    -- 00h: `LX`; an 80386 and OS/2; a library, one page, no start
    doublewords (0x584C ∷ 0 ∷ 0x10002 ∷ 0 ∷ 0x8000 ∷ 1 ∷ 0 ∷ 0 ∷ 0 ∷ 0
    -- 28h: the page size, the shift, sizes of the fixup and loader sections
    ∷ 4096 ∷ 0 ∷ 16 ∷ 0 ∷ 38 ∷ 0
    -- 40h: the object table, one object, the page table, iterated pages
    ∷ 0xC4 ∷ 1 ∷ 0xDC ∷ 0xFA ∷ 0 ∷ 0
    -- 58h: resident names, entries, the fixup page table, fixup records
    ∷ 0xE4 ∷ 0xE9 ∷ 0 ∷ 0 ∷ 0xEA ∷ 0xF2
    -- 70h: no import modules, import procedures, page data
    ∷ 0xF9 ∷ 0 ∷ 0xF9 ∷ 0 ∷ 0xFA ∷ 0
    -- 88h: non-resident names and their length; nothing more up to C4h
    ∷ 0xFA ∷ 5 ∷ 0 ∷ 0 ∷ 0 ∷ 0 ∷ 0 ∷ 0 ∷ 0 ∷ 0 ∷ 0 ∷ 0 ∷ 0 ∷ 0 ∷ 0
    -- C4h: size, linked base, flags, first page, page count
    ∷ 8 ∷ 0x10000000 ∷ 0x2005 ∷ 1 ∷ 1 ∷ 0 ∷ [])
    -- DCh: a page of zeros
    ++ (0 ∷ 0 ∷ 0 ∷ 0 ∷ 0 ∷ 0 ∷ 3 ∷ 0 ∷ [])
    -- E4h, E9h: the name D with ordinal 0, no entries
    ++ (1 ∷ 0x44 ∷ 0 ∷ 0 ∷ 0 ∷ []) ++ (0 ∷ [])
    -- EAh, F2h: the page's records, a doubleword at 4 to offset 0 of object 1
    ++ doublewords (0 ∷ 7 ∷ []) ++ (0x07 ∷ 0x00 ∷ 0x04 ∷ 0x00 ∷ 0x01 ∷ 0x00 ∷ 0x00 ∷ [])
    -- F9h, FAh: no import procedures; the name again
    ++ (0 ∷ []) ++ (1 ∷ 0x44 ∷ 0 ∷ 0 ∷ 0 ∷ [])

pub record WorkedOneObject : Type 0 where
  pub file : file_of (image_of one_object) ≡ one_object_bytes
