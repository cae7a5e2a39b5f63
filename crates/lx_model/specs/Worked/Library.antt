-- Worked values: what fixups put under bases, where entries lead, and which modules can be loaded.
use Rattle.std.specs.Prelude.{◌≡◌, ℕ, ◌+◌, List, [], ◌∷◌, ◌++◌, length, map, codes, Some, Ok, Err}
use Rattle.std.specs.List.{range_with_len}
use Rattle.lx_types.specs.declared.object.ObjHead.{ObjHead}
use Rattle.lx_types.specs.declared.entry.EntryHead.TheVariants.{At, Gate286, Forward}
use Rattle.lx_types.specs.declared.entry.FwdKey.TheVariants.{NameAt}
use Rattle.lx_types.specs.declared.fix.FixTarget.{FixTarget}
use Rattle.lx_types.specs.declared.fix.FixTarget.TheVariants.{Ordinal, Named}
use Rattle.lx_types.specs.declared.parts.Parts.{Parts}
use Rattle.lx_types.specs.declared.bases.ModBases.{ModBases}
use Rattle.lx_types.specs.Object.{zero_page}
use Rattle.lx_model.specs.declared.library.Spot.{Spot}
use Rattle.lx_model.specs.declared.library.EntryFault.TheVariants as faults
use Rattle.lx_model.specs.declared.library.Health.TheVariants as health
use Rattle.lx_model.specs.Library.{no_module, library_named}
use Rattle.lx_model.specs.Entries.{Entry, EntryNamed}
use Rattle.lx_model.specs.Fixed.{Fixed}
use Rattle.lx_model.specs.Reach.{Order, HealthOf}

-- ---- modules

abbrev pub library : List ℕ → Parts
library name = record no_module { flags = 0x8000; name = name }

-- an object of two pages with these flags
abbrev pub two_pages : ℕ → ObjHead
two_pages flags = record { size = 0x2000; base = 0; flags = flags; first = 1; count = 2 }

-- a library whose one object has zeros in its two pages, fixup records for the first and for the second
-- page, an import module, and a name `f` at offset 1 of the import procedures
abbrev pub fixed_up : ℕ → List ℕ → List ℕ → List ℕ → List FixTarget → Parts
fixed_up flags import page others refs = record (library (codes "X")) {
  file = 0 ∷ 1 ∷ 0x66 ∷ [] ++ page ++ others;
  objects = two_pages flags ∷ [];
  pages = zero_page ∷ zero_page ∷ [];
  fix_spans = (3, 3 + length page) ∷ (3 + length page, 3 + length page + length others) ∷ [];
  imports = import ∷ [];
  refs = refs;
}

-- a library whose entry 1, named f, is f of another
abbrev pub forwarder : List ℕ → List ℕ → Parts
forwarder name other = record (library name) {
  file = 0 ∷ 1 ∷ 0x66 ∷ [];
  imports = other ∷ [];
  entries = (1, Forward 1 (NameAt 1)) ∷ [];
  names = (codes "f", 1) ∷ [];
}

-- a library whose entry 1, named f, is a place in its one object, and whose entry 2 is a gate
abbrev pub owner : List ℕ → ℕ → Parts
owner name offset = record (library name) {
  objects = two_pages 0x2005 ∷ [];
  entries = (1, At 1 offset) ∷ (2, Gate286 1 0) ∷ [];
  names = (codes "f", 1) ∷ [];
}

abbrev pub base : ℕ → ℕ → ModBases
base m at = record { «module» = m; objects = at ∷ [] }

-- n bytes from a place of a page on, of module 0 of a library
abbrev pub bytes_of : List Parts → List ModBases → ℕ → ℕ → ℕ → List ℕ
bytes_of lib bases page from n = map (Fixed lib 0 (record { mods = bases }) (record { object = 1; page = page })) (range_with_len from n)

-- the bytes for one record of the first page, with the module at a base and library B at 10010000h
abbrev pub put_by : ℕ → List ℕ → ℕ → ℕ → ℕ → List ℕ
put_by flags bytes at from n = bytes_of (fixed_up flags (codes "B") bytes [] [] ∷ owner (codes "B") 0 ∷ []) (base 0 at ∷ base 1 0x10010000 ∷ []) 0 from n

pub record WorkedFields : Type 0 where
  -- 16-bit offset and alias selector of 10020010h
  pub alias : put_by 0x2005 (0x13 ∷ 0x00 ∷ 0x00 ∷ 0x00 ∷ 0x01 ∷ 0x10 ∷ 0x00 ∷ []) 0x10020000 0 4 ≡ 0x10 ∷ 0x00 ∷ 0x17 ∷ 0x80 ∷ []
  -- import by ordinal 1, additive 4
  pub import : put_by 0x2005 (0x07 ∷ 0x85 ∷ 0x04 ∷ 0x00 ∷ 0x01 ∷ 0x01 ∷ 0x04 ∷ 0x00 ∷ []) 0x10000000 4 4 ≡ 0x04 ∷ 0x00 ∷ 0x01 ∷ 0x10 ∷ []
  pub low_byte : put_by 0x2005 (0x00 ∷ 0x00 ∷ 0x00 ∷ 0x00 ∷ 0x01 ∷ 0x34 ∷ 0x12 ∷ []) 0x10000000 0 2 ≡ 0x34 ∷ 0x00 ∷ []
  pub offset : put_by 0x2005 (0x05 ∷ 0x00 ∷ 0x00 ∷ 0x00 ∷ 0x01 ∷ 0x34 ∷ 0x12 ∷ []) 0x10000000 0 4 ≡ 0x34 ∷ 0x12 ∷ 0x00 ∷ 0x00 ∷ []
  -- selectors: flat code, flat data, and tiled where the object is 16-bit
  pub code : put_by 0x2005 (0x06 ∷ 0x00 ∷ 0x00 ∷ 0x00 ∷ 0x01 ∷ 0x10 ∷ 0x00 ∷ []) 0x10020000 0 6 ≡ 0x10 ∷ 0x00 ∷ 0x02 ∷ 0x10 ∷ 0x5B ∷ 0x00 ∷ []
  pub plain : put_by 0x2003 (0x02 ∷ 0x00 ∷ 0x00 ∷ 0x00 ∷ 0x01 ∷ []) 0x10020000 0 2 ≡ 0x53 ∷ 0x00 ∷ []
  pub tiled : put_by 0x0005 (0x06 ∷ 0x00 ∷ 0x00 ∷ 0x00 ∷ 0x01 ∷ 0x10 ∷ 0x00 ∷ []) 0x10020000 0 6 ≡ 0x10 ∷ 0x00 ∷ 0x00 ∷ 0x00 ∷ 0x17 ∷ 0x80 ∷ []
  -- an additive of 32 bits, and one with which the sum is cut to 32 bits
  pub additive : put_by 0x2005 (0x07 ∷ 0x24 ∷ 0x00 ∷ 0x00 ∷ 0x01 ∷ 0x10 ∷ 0x00 ∷ 0x78 ∷ 0x56 ∷ 0x34 ∷ 0x12 ∷ []) 0x10000000 0 4 ≡ 0x88 ∷ 0x56 ∷ 0x34 ∷ 0x22 ∷ []
  pub sum : put_by 0x2005 (0x07 ∷ 0x24 ∷ 0x00 ∷ 0x00 ∷ 0x01 ∷ 0x10 ∷ 0x00 ∷ 0x00 ∷ 0x00 ∷ 0x00 ∷ 0xF0 ∷ []) 0x10000000 0 4 ≡ 0x10 ∷ 0x00 ∷ 0x00 ∷ 0x00 ∷ []
  -- the offset that goes with an alias lies in its tile
  pub alias_offset : put_by 0x2005 (0x16 ∷ 0x00 ∷ 0x00 ∷ 0x00 ∷ 0x01 ∷ 0x10 ∷ 0x00 ∷ []) 0x10020000 0 6 ≡ 0x10 ∷ 0x00 ∷ 0x00 ∷ 0x00 ∷ 0x17 ∷ 0x80 ∷ []
  pub alias_selector : put_by 0x2005 (0x12 ∷ 0x00 ∷ 0x00 ∷ 0x00 ∷ 0x01 ∷ []) 0x10020000 0 2 ≡ 0x17 ∷ 0x80 ∷ []
  -- B's object is 32-bit code, whatever the importer's is: the selector is flat
  pub target_flags : put_by 0x0003 (0x06 ∷ 0x81 ∷ 0x00 ∷ 0x00 ∷ 0x01 ∷ 0x01 ∷ []) 0x10000000 0 6 ≡ 0x00 ∷ 0x00 ∷ 0x01 ∷ 0x10 ∷ 0x5B ∷ 0x00 ∷ []
  -- from the end of the field back to its start
  pub relative : put_by 0x2005 (0x08 ∷ 0x00 ∷ 0x00 ∷ 0x00 ∷ 0x01 ∷ 0x00 ∷ 0x00 ∷ []) 0x10000000 0 4 ≡ 0xFC ∷ 0xFF ∷ 0xFF ∷ 0xFF ∷ []
  -- the same on the second page, from 10001004h
  pub second_page :
      let lib = fixed_up 0x2005 (codes "B") [] (0x08 ∷ 0x00 ∷ 0x00 ∷ 0x00 ∷ 0x01 ∷ 0x00 ∷ 0x00 ∷ []) [] ∷ [] in
      bytes_of lib (base 0 0x10000000 ∷ []) 1 0 4 ≡ 0xFC ∷ 0xEF ∷ 0xFF ∷ 0xFF ∷ []
  -- of two sources that share bytes the last one counts
  pub last : put_by 0x2005 (0x07 ∷ 0x00 ∷ 0x00 ∷ 0x00 ∷ 0x01 ∷ 0x00 ∷ 0x00 ∷ 0x05 ∷ 0x00 ∷ 0x01 ∷ 0x00 ∷ 0x01 ∷ 0x34 ∷ 0x12 ∷ []) 0x10000000 0 4
      ≡ 0x00 ∷ 0x34 ∷ 0x12 ∷ 0x10 ∷ []
  -- a field over a page's end, whose page 1 is fixed alone
  pub page_end :
      let lib =
      fixed_up 0x2005 (codes "B") (0x07 ∷ 0x00 ∷ 0xFE ∷ 0x0F ∷ 0x01 ∷ 0x00 ∷ 0x00 ∷ []) (0x07 ∷ 0x00 ∷ 0xFE ∷ 0xFF ∷ 0x01 ∷ 0x00 ∷ 0x00 ∷ []) [] ∷ [] in
      (bytes_of lib (base 0 0x10000000 ∷ []) 0 4092 4 ++ bytes_of lib (base 0 0x10000000 ∷ []) 1 0 4)
      ≡ 0x00 ∷ 0x00 ∷ 0x00 ∷ 0x00 ∷ 0x00 ∷ 0x10 ∷ 0x00 ∷ 0x00 ∷ []

-- ---- entries and loads

-- X imports f of A by name; A's f is f of B, and B's f is f of C
abbrev pub importer : List FixTarget → Parts
importer refs = fixed_up 0x2005 (codes "a") (0x07 ∷ 0x02 ∷ 0x00 ∷ 0x00 ∷ 0x01 ∷ 0x01 ∷ 0x00 ∷ []) [] refs

abbrev pub chain : Parts → List Parts
chain last = importer (Named 1 1 ∷ []) ∷ forwarder (codes "A") (codes "B") ∷ forwarder (codes "B") (codes "C") ∷ last ∷ []

abbrev pub spot : ℕ → ℕ → ℕ → Spot
spot m object offset = record { «module» = m; object = object; offset = offset }

-- X and the one library that it imports
abbrev pub pair : FixTarget → Parts → List Parts
pair target imported = importer (target ∷ []) ∷ imported ∷ []

pub record WorkedLibrary : Type 0 where
  pub named : EntryNamed (chain (owner (codes "C") 0x20)) 1 (codes "f") ≡ Ok (spot 3 1 0x20)
  pub value : bytes_of (chain (owner (codes "C") 0x20)) (base 0 0x10000000 ∷ base 3 0x10020000 ∷ []) 0 0 4 ≡ 0x20 ∷ 0x00 ∷ 0x02 ∷ 0x10 ∷ []
  pub order : Order (chain (owner (codes "C") 0x20)) 0 ≡ 3 ∷ 2 ∷ 1 ∷ 0 ∷ []
  pub fit : HealthOf (chain (owner (codes "C") 0x20)) 0 ≡ health.Fit
  -- C's f is f of A
  pub loop : Entry (chain (forwarder (codes "C") (codes "A"))) (1, 1) ≡ Err faults.ForwardLoop
  pub comes_back : HealthOf (chain (forwarder (codes "C") (codes "A"))) 0 ≡ health.ForwardLoop 0
  -- module names are compared without case; a program is no import
  pub case : library_named (pair (Ordinal 1 1) (owner (codes "A") 0)) (codes "a") ≡ Some 1
  pub lost : HealthOf (pair (Ordinal 1 1) (owner (codes "B") 0)) 0 ≡ health.NoModule 0 1
  pub program : HealthOf (pair (Ordinal 1 1) (record (owner (codes "A") 0) { flags = 0 })) 0 ≡ health.NoModule 0 1
  pub no_entry : HealthOf (pair (Ordinal 1 9) (owner (codes "A") 0)) 0 ≡ health.NoEntry 0
  pub gate : HealthOf (pair (Ordinal 1 2) (owner (codes "A") 0)) 0 ≡ health.Gate286 0
