-- A worked library whose one reference, to an entry point of another module, begins two bytes before a page's end.
use Rattle.std.specs.Prelude.{◌≡◌, ℕ, List, [], ◌∷◌, ◌++◌, None, true, false, codes}
use Rattle.std.specs.List.{flat_map}
use Rattle.lx_bytes.specs.LittleEndian.{little_bytes}
use Rattle.lx_types.specs.declared.entry.EntryKey.TheVariants as keys
use Rattle.obj_types.specs.declared.object.Frame.TheVariants as frames
use Rattle.obj_types.specs.declared.object.Goal.TheVariants as goals
use Rattle.obj_types.specs.declared.definition.ModKind.TheVariants.{Library}
use Rattle.obj_types.specs.Fresh.{empty_module}
use Rattle.obj_types.specs.Defaults.{default_def}
use Rattle.link_model.specs.Link.{Link}
use Rattle.image_model.specs.File.{file_of}
use Rattle.image_model.specs.Linked.{image_of}
use Rattle.image_model.specs.Worked.Samples.{seg, piece, fix, extern, import}

-- The number 4 stands at offset 4094.
abbrev pub straddling : Link
straddling = record {
  modules = record empty_module {
    name = codes "a";
    segs = seg (codes "CODE32") (codes "CODE") 5 2 true 4100 ∷ [];
    exts = extern (codes "f") false ∷ [];
    pieces = piece 1 4094 (4 ∷ 0 ∷ 0 ∷ 0 ∷ []) ∷ [];
    fixes = fix 1 4094 9 false frames.OfTarget (goals.Ext 1) 0 ∷ [];
    imports = import (codes "f") (codes "m") (keys.Ordinal 1) ∷ [];
  } ∷ [];
  def = default_def Library None;
  stem = codes "S";
  clash = None;
}

abbrev doublewords : List ℕ → List ℕ
doublewords ns = flat_map (little_bytes 4) ns

abbrev pub straddling_bytes : List ℕ
straddling_bytes =
    -- 00h: two pages
    doublewords (0x584C ∷ 0 ∷ 0x10002 ∷ 0 ∷ 0x8000 ∷ 2 ∷ 0 ∷ 0 ∷ 0 ∷ 0
    -- 28h: sizes of the fixup and loader sections
    ∷ 4096 ∷ 0 ∷ 31 ∷ 0 ∷ 46 ∷ 0
    -- 40h: tables of the loader section, and the page data
    ∷ 0xC4 ∷ 1 ∷ 0xDC ∷ 0x111 ∷ 0 ∷ 0 ∷ 0xEC ∷ 0xF1 ∷ 0 ∷ 0
    -- 68h: tables of the fixup section; one import module
    ∷ 0xF2 ∷ 0xFE ∷ 0x10E ∷ 1 ∷ 0x110 ∷ 0
    -- 80h: the page data, and the non-resident names
    ∷ 0x111 ∷ 0 ∷ 0x111 ∷ 5 ∷ 0 ∷ 0 ∷ 0 ∷ 0 ∷ 0 ∷ 0 ∷ 0 ∷ 0 ∷ 0 ∷ 0 ∷ 0 ∷ 0 ∷ 0
    -- C4h: size, linked base, flags, first page, page count
    ∷ 4100 ∷ 0x10000000 ∷ 0x2005 ∷ 1 ∷ 2 ∷ 0 ∷ [])
    -- DCh: two pages of zeros
    ++ (0 ∷ 0 ∷ 0 ∷ 0 ∷ 0 ∷ 0 ∷ 3 ∷ 0 ∷ []) ++ (0 ∷ 0 ∷ 0 ∷ 0 ∷ 0 ∷ 0 ∷ 3 ∷ 0 ∷ [])
    -- ECh, F1h: the name S, no entries
    ++ (1 ∷ 0x53 ∷ 0 ∷ 0 ∷ 0 ∷ []) ++ (0 ∷ [])
    -- F2h, FEh: a record of ordinal 1 of import module 1 for each page, with the additive 4
    ++ doublewords (0 ∷ 8 ∷ 16 ∷ []) ++ (0x07 ∷ 0x85 ∷ 0xFE ∷ 0x0F ∷ 1 ∷ 1 ∷ 4 ∷ 0 ∷ []) ++ (0x07 ∷ 0x85 ∷ 0xFE ∷ 0xFF ∷ 1 ∷ 1 ∷ 4 ∷ 0 ∷ [])
    -- 10Eh, 110h: the import module M, no import procedures; the name again
    ++ (1 ∷ 0x4D ∷ []) ++ (0 ∷ []) ++ (1 ∷ 0x53 ∷ 0 ∷ 0 ∷ 0 ∷ [])

pub record WorkedStraddling : Type 0 where
  pub file : file_of (image_of straddling) ≡ straddling_bytes
