-- Worked values: what small libraries hold in memory, and why others are not loaded.
use Rattle.std.specs.Prelude.{ℕ, List, [], ◌∷◌, codes, replicate}
use Rattle.lx_types.specs.declared.parts.Parts.{Parts}
use Rattle.lx_types.specs.declared.object.ObjHead.{ObjHead}
use Rattle.lx_types.specs.declared.object.PageKind.TheVariants.{Plain, Invalid as invalid}
use Rattle.lx_types.specs.declared.entry.EntryHead.TheVariants.{At, Gate286, Forward}
use Rattle.lx_types.specs.declared.entry.FwdKey.TheVariants as keys
use Rattle.lx_types.specs.declared.fix.FixTarget.TheVariants.{Ordinal, Own}
use Rattle.memory_model.specs.declared.held.MemoryRefusal.TheVariants as why
use Rattle.load_model.specs.Modules.{Library}
use Rattle.load_model.specs.Samples.{code, own_data, object, library}
use Rattle.memory_model.specs.declared.held.PageMemory.TheVariants.{Invalid, Held}
use Rattle.memory_model.specs.declared.held.PageMemory.{PageMemory}
use Rattle.memory_model.specs.declared.held.ObjectMemory.{ObjectMemory}
use Rattle.memory_model.specs.declared.held.ModuleMemory.{ModuleMemory}
use Rattle.memory_model.specs.Memory.{IsMemory, RefusesMemory}

-- an object with its pages, and a module of one object
abbrev in_memory : ℕ → ℕ → ObjHead → List PageMemory → ObjectMemory
in_memory number base o pages = record { number = number; base = base; size = o.size; flags = o.flags; pages = pages }

abbrev held : List ℕ → List ObjectMemory → ModuleMemory
held name objects = record { name = name; objects = objects }

-- an object whose pages stand in the page table from one on
abbrev paged : ℕ → ℕ → ℕ → ℕ → ℕ → ObjHead
paged flags size base first count = record { size = size; base = base; flags = flags; first = first; count = count }

-- ---- a library alone, and a program

abbrev own_object : ObjHead
own_object = paged own_data 5 0x10020000 1 1

abbrev code_object : ObjHead
code_object = paged code 0x1003 0x10020000 2 1

-- data that the file has three bytes of; and at the same base code whose first page is invalid, with three bytes more
abbrev A : Parts
A = record (library (codes "A") (own_object ∷ code_object ∷ [])) {
  file = 0xAA ∷ 0xBB ∷ 0xCC ∷ [];
  pages = record { kind = Plain; at = 0; len = 3 } ∷ record { kind = invalid; at = 0; len = 0 } ∷ [];
  fix_spans = (0, 0) ∷ (0, 0) ∷ [];
}

-- the same as a program
abbrev P : Parts
P = record A { flags = 0; name = codes "P" }

abbrev own_pages : List PageMemory
own_pages = Held (0xAA ∷ 0xBB ∷ 0xCC ∷ 0 ∷ 0 ∷ []) ∷ []

abbrev code_pages : List PageMemory
code_pages = Invalid ∷ Held (0 ∷ 0 ∷ 0 ∷ []) ∷ []

pub record WorkedAlone : Type 0 where
  -- an object stands at its linked base where that is free, another at the least place that is
  pub loaded :
      IsMemory (A ∷ []) (held (codes "A") (in_memory 1 0x10020000 own_object own_pages ∷ in_memory 2 0x10000000 code_object code_pages ∷ []) ∷ [])
  -- a program is started; in its arena these bases are none
  pub started :
      IsMemory (P ∷ []) (held (codes "P") (in_memory 1 0x00010000 own_object own_pages ∷ in_memory 2 0x00020000 code_object code_pages ∷ []) ∷ [])
  -- modules that the first one does not reach are not in memory
  pub unreached :
      IsMemory (A ∷ P ∷ []) (held (codes "A") (in_memory 1 0x10020000 own_object own_pages ∷ in_memory 2 0x10000000 code_object code_pages ∷ []) ∷ [])
  pub nothing : IsMemory (library (codes "N") [] ∷ []) (held (codes "N") [] ∷ [])

-- ---- two libraries that are linked at one base

abbrev eight : ObjHead
eight = object code 8 0x10000000

abbrev X : Parts
X = record (library (codes "X") (eight ∷ [])) { imports = codes "y" ∷ [] }

abbrev Y : Parts
Y = library (codes "Y") (eight ∷ [])

abbrev zeros : ℕ → ObjectMemory
zeros base = in_memory 1 base eight (Held (replicate 8 0) ∷ [])

pub record WorkedApart : Type 0 where
  -- what is imported is attached and placed first
  pub importer : IsMemory (X ∷ Y ∷ []) (held (codes "Y") (zeros 0x10000000 ∷ []) ∷ held (codes "X") (zeros 0x10010000 ∷ []) ∷ [])
  pub alone : IsMemory (Y ∷ X ∷ []) (held (codes "Y") (zeros 0x10000000 ∷ []) ∷ [])
  -- of modules that import each other the first one is attached last
  pub circle :
      IsMemory (X ∷ record Y { imports = codes "X" ∷ [] } ∷ [])
      (held (codes "Y") (zeros 0x10000000 ∷ []) ∷ held (codes "X") (zeros 0x10010000 ∷ []) ∷ [])

-- ---- an import

-- eight bytes, into whose middle a 32-bit offset goes, that of ordinal 1 of the first import module
abbrev eight_bytes : ObjHead
eight_bytes = paged own_data 8 0x10000000 1 1

abbrev importing : List ℕ → Parts
importing name = record (library name (eight_bytes ∷ [])) {
  file = 7 ∷ 1 ∷ 2 ∷ 0 ∷ 1 ∷ 1 ∷ 0 ∷ 1 ∷ 2 ∷ 3 ∷ 4 ∷ 5 ∷ 6 ∷ 7 ∷ 8 ∷ [];
  pages = record { kind = Plain; at = 7; len = 8 } ∷ [];
  fix_spans = (0, 7) ∷ [];
  imports = codes "E" ∷ [];
  refs = Ordinal 1 1 ∷ [];
}

-- it is entry 1 of E, at offset 4; or is forwarded there
abbrev E : Parts
E = record (library (codes "E") (eight ∷ [])) { entries = (1, At 1 4) ∷ [] }

abbrev forwarding : Parts
forwarding = record (library (codes "E") []) { imports = codes "Y" ∷ []; entries = (1, Forward 1 (keys.Ordinal 2)) ∷ [] }

abbrev Y_with_entry : Parts
Y_with_entry = record Y { entries = (2, At 1 6) ∷ [] }

abbrev bytes_with : ℕ → List PageMemory
bytes_with offset = Held (1 ∷ 2 ∷ offset ∷ 0 ∷ 0 ∷ 0x10 ∷ 7 ∷ 8 ∷ []) ∷ []

pub record WorkedImport : Type 0 where
  pub import :
      IsMemory (importing (codes "M") ∷ E ∷ [])
      (held (codes "E") (zeros 0x10000000 ∷ []) ∷ held (codes "M") (in_memory 1 0x10010000 eight_bytes (bytes_with 4) ∷ []) ∷ [])
  pub forwarder :
      IsMemory (importing (codes "M") ∷ forwarding ∷ Y_with_entry ∷ [])
      (held (codes "Y") (zeros 0x10000000 ∷ []) ∷ held (codes "E") [] ∷ held (codes "M") (in_memory 1 0x10010000 eight_bytes (bytes_with 6) ∷ []) ∷ [])

-- ---- refusals

abbrev owning : ℕ → Library
owning ordinal = record (library (codes "O") []) {
  imports = codes "O" ∷ [];
  entries = (1, Forward 1 (keys.Ordinal 1)) ∷ (2, Gate286 1 0) ∷ [];
  refs = Own ordinal ∷ [];
} ∷ []

abbrev large : Parts
large = library (codes "L") (object code 8 0x10000000 ∷ object code 0x10000000 0x10000000 ∷ [])

pub record WorkedRefusals : Type 0 where
  pub no_modules : RefusesMemory [] why.NoModule
  -- an import that is not given, and one that is a program
  pub not_given : RefusesMemory (importing (codes "M") ∷ []) why.NoModule
  pub a_program : RefusesMemory (importing (codes "M") ∷ record E { flags = 0 } ∷ []) why.NoModule
  pub no_entry : RefusesMemory (importing (codes "M") ∷ library (codes "E") [] ∷ []) why.NoEntry
  pub own_entry : RefusesMemory (owning 3) why.NoEntry
  pub loop : RefusesMemory (owning 1) why.ForwardLoop
  pub gate : RefusesMemory (owning 2) why.Gate286
  -- the second object of the second module; the first of its modules has its place
  pub no_room : RefusesMemory (record X { imports = codes "L" ∷ [] } ∷ large ∷ []) (why.ArenaFull 1 2 0x10000000)
