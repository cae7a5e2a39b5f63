-- Worked values: what the fields of the header may be, which of two faults comes first, and the same module after
-- a DOS stub.
use Rattle.std.specs.Prelude.{◌≡◌, ℕ, List, [], ◌∷◌, ◌++◌, None, take, replicate}
use Rattle.lx_bytes.specs.LittleEndian.{little_bytes}
use Rattle.lx_types.specs.declared.object.PageKind.TheVariants.{Plain, Iterated}
use Rattle.lx_types.specs.declared.parts.Parts.{Parts}
use Rattle.lx_types.specs.declared.refusal.LxKind.TheVariants as kinds
use Rattle.lx_model.specs.Reading.{fault}
use Rattle.lx_model.specs.Header.{header_fault}
use Rattle.lx_model.specs.Module.{Lx}
use Rattle.lx_model.specs.Tables.{page_heads}
use Rattle.lx_model.specs.Worked.File.{worked_file, worked_parts, put, changed, Accepts, Refuses}

-- ---- what fields may be

-- the header alone is good
abbrev IsHeader : List ℕ → Type 0
IsHeader file = header_fault file ≡ None

pub record WorkedHeader : Type 0 where
  pub word_order : Refuses (changed 3 (1 ∷ [])) (fault kinds.Field 3)
  pub level : Refuses (changed 4 (1 ∷ [])) (fault kinds.Field 4)
  -- the 80286, 80386 and 80486; no 80586
  pub cpu_none : Refuses (changed 8 (0 ∷ [])) (fault kinds.Field 8)
  pub cpu_286 : Accepts (changed 8 (1 ∷ []))
  pub cpu_486 : Accepts (changed 8 (3 ∷ []))
  pub cpu_586 : Refuses (changed 8 (4 ∷ [])) (fault kinds.Field 8)
  -- OS/2, and no Windows
  pub system : Refuses (changed 0x0A (2 ∷ [])) (fault kinds.Field 0x0A)
  -- module flags: 1000h is free, 2000h is a module that was not linked without errors
  pub free_flag : Accepts (changed 0x11 (0x90 ∷ []))
  pub errors : Refuses (changed 0x11 (0xA0 ∷ [])) (fault kinds.Field 0x10)
  pub program : Accepts (changed 0x11 (0x00 ∷ []))
  pub bit_16 : Refuses (changed 0x12 (1 ∷ [])) (fault kinds.Field 0x10)
  pub driver : Refuses (changed 0x11 (0x00 ∷ 2 ∷ [])) (fault kinds.Field 0x10)
  -- 65,536 pages and 1,024 objects
  pub pages : IsHeader (changed 0x14 (0 ∷ 0 ∷ 1 ∷ []))
  pub objects : IsHeader (changed 0x44 (0 ∷ 4 ∷ []))
  -- pages of 4,096 bytes, none of 2,048 or 8,192
  pub small_page : Refuses (changed 0x29 (0x08 ∷ [])) (fault kinds.Field 0x28)
  pub large_page : Refuses (changed 0x29 (0x20 ∷ [])) (fault kinds.Field 0x28)
  pub shift : Accepts (changed 0x2C (12 ∷ []))
  pub large_shift : Refuses (changed 0x2C (13 ∷ [])) (fault kinds.Field 0x2C)

-- ---- which fault is first

-- the worked file with a fault in each of two tables
pub record WorkedOrder : Type 0 where
  pub fields : Refuses (put (changed 8 (4 ∷ [])) 0x0A (2 ∷ [])) (fault kinds.Field 8)
  pub header : Refuses (put (changed 0x2C (13 ∷ [])) 0xD4 (2 ∷ [])) (fault kinds.Field 0x2C)
  pub objects : Refuses (put (changed 0xD4 (2 ∷ [])) 0xE2 (5 ∷ [])) (fault kinds.Object 0xC4)
  pub pages : Refuses (put (changed 0xE2 (5 ∷ [])) 0xE4 (0 ∷ [])) (fault kinds.PageKind 0xDC)
  pub names : Refuses (put (changed 0xE4 (0 ∷ [])) 0x8C (8 ∷ [])) (fault kinds.NameTable 0xE4)
  pub others : Refuses (put (changed 0x8C (8 ∷ [])) 0x74 (1 ∷ [])) (fault kinds.Short 0x106)
  pub imports : Refuses (put (changed 0x74 (1 ∷ [])) 0xED (1 ∷ 5 ∷ [])) (fault kinds.ImportTable 0xFD)
  pub entries : Refuses (put (changed 0xED (1 ∷ 5 ∷ [])) 0x18 (2 ∷ [])) (fault kinds.EntryTable 0xED)
  pub start : Refuses (put (changed 0x18 (2 ∷ [])) 0xEE (9 ∷ [])) (fault kinds.Field 0x18)
  pub fix_table : Refuses (put (changed 0xEE (9 ∷ [])) 0xF6 (9 ∷ [])) (fault kinds.FixTable 0xF2)
  -- a source that is wrong before a target that is
  pub records : Refuses (put (changed 0xF9 (0x10 ∷ [])) 0xFA (2 ∷ [])) (fault kinds.Straddle 0xF8)
  -- an object that is cut off, and one whose pages are not there besides
  pub cut_object : Refuses (take 0xDA worked_file) (fault kinds.Short 0xD8)
  pub bad_object : Refuses (take 0xDA (changed 0xD4 (2 ∷ []))) (fault kinds.Object 0xC4)

-- ---- after a stub

-- a DOS program of 40h bytes, whose doubleword at 3Ch tells the header's place
abbrev stub : List ℕ
stub = 0x4D ∷ 0x5A ∷ replicate 58 0 ++ little_bytes 4 0x40

-- Tables count from the header; iterated pages, data pages and non-resident names from the file's start.
abbrev after_stub : List ℕ → List ℕ
after_stub file = stub ++ put (put (put file 0x4C (0x3E ∷ 0x01 ∷ [])) 0x80 (0x3E ∷ 0x01 ∷ [])) 0x88 (0x3E ∷ 0x01 ∷ [])

abbrev stub_parts : Parts
stub_parts = record worked_parts { file = after_stub worked_file; fix_spans = (0x136, 0x13D) ∷ []; procs_at = 0x13D }

pub record WorkedStub : Type 0 where
  pub meaning : Lx (after_stub worked_file) stub_parts
  -- a page with four bytes at 3, as plain data and as groups
  pub plain : page_heads (after_stub (changed 0xDC (3 ∷ 0 ∷ 0 ∷ 0 ∷ 4 ∷ 0 ∷ 0 ∷ []))) ≡ record { kind = Plain; at = 0x141; len = 4 } ∷ []
  pub iterated : page_heads (after_stub (changed 0xDC (3 ∷ 0 ∷ 0 ∷ 0 ∷ 4 ∷ 0 ∷ 1 ∷ []))) ≡ record { kind = Iterated; at = 0x141; len = 4 } ∷ []
  -- faults have places of the file
  pub signature : Refuses (after_stub (changed 0 (0x4E ∷ []))) (fault kinds.Signature 0x40)
  pub field : Refuses (after_stub (changed 0x2C (13 ∷ []))) (fault kinds.Field 0x6C)
  pub object : Refuses (after_stub (changed 0xD4 (2 ∷ []))) (fault kinds.Object 0x104)
  pub page_kind : Refuses (after_stub (changed 0xE2 (5 ∷ []))) (fault kinds.PageKind 0x11C)
  pub name_table : Refuses (after_stub (changed 0xE4 (0 ∷ []))) (fault kinds.NameTable 0x124)
  pub others_cut : Refuses (after_stub (changed 0x8C (8 ∷ []))) (fault kinds.Short 0x146)
  pub imports : Refuses (after_stub (changed 0x74 (1 ∷ []))) (fault kinds.ImportTable 0x13D)
  pub entries : Refuses (after_stub (changed 0xED (1 ∷ 5 ∷ []))) (fault kinds.EntryTable 0x12D)
  pub start : Refuses (after_stub (changed 0x18 (2 ∷ []))) (fault kinds.Field 0x58)
  pub fix_table : Refuses (after_stub (changed 0xEE (9 ∷ []))) (fault kinds.FixTable 0x132)
  pub source : Refuses (after_stub (changed 0xF6 (9 ∷ []))) (fault kinds.BadSource 0x136)
  pub target : Refuses (after_stub (changed 0xFA (2 ∷ []))) (fault kinds.BadTarget 0x136)
  pub straddle : Refuses (after_stub (changed 0xF9 (0x10 ∷ []))) (fault kinds.Straddle 0x138)
