-- Worked values: maps and their lines, as they are to be printed.
use Rattle.std.specs.Prelude.{◌≡◌, ℕ, true, false, List, [], ◌∷◌, ◌++◌, codes, Some, None, replicate}
use Rattle.lx_types.specs.declared.entry.EntryKey.TheVariants.{Ordinal, Named}
use Rattle.obj_types.specs.declared.definition.ModKind.TheVariants.{Library}
use Rattle.obj_types.specs.declared.object.ObjModule.{ObjModule}
use Rattle.obj_types.specs.declared.object.Seg.{Seg}
use Rattle.obj_types.specs.declared.symbol.Pub.{Pub}
use Rattle.obj_types.specs.declared.symbol.PubPlace.TheVariants.{In, Const}
use Rattle.obj_types.specs.Defaults.{default_def}
use Rattle.obj_types.specs.Fresh.{empty_module}
use Rattle.link_model.specs.Link.{Link}
use Rattle.link_model.specs.OneSegment.{one_segment}
use Rattle.map_model.specs.Listed.{Listed, placed_publics, constants}
use Rattle.map_model.specs.Lines.{import_line, common_line, constant_line}
use Rattle.map_model.specs.Maps.{IsMap, map_text}

-- a text, and the end of its line
abbrev pub ln : List ℕ → List ℕ
ln text = text ++ 0x0A ∷ []

abbrev pub library : List ObjModule → Link
library modules = record { modules = modules; def = record (default_def Library None) { name = Some (codes "D") }; stem = codes "D"; clash = None }

-- ---- a library of one segment of eight bytes

abbrev pub one_object : Link
one_object = library (one_segment (codes "a") (replicate 8 0) (4 ∷ []) ∷ [])

abbrev pub WorkedMap : Type 0
WorkedMap =
    IsMap (codes "d") one_object
    (ln (codes "map D objects 1") ++ ln (codes "object 1 10000000 size 8 flags 00002005") ++ ln (codes "segment 1 10000000 8 CODE32 CODE 1"))

-- ---- two modules with publics, constants and a communal; one segment holds a debugger's symbols

abbrev data_seg : List ℕ → ℕ → Seg
data_seg name len = record { name = name; class = codes "DATA"; align = 1; combine = 2; wide = true; len = len; debug = false }

abbrev symbols_seg : Seg
symbols_seg = record { name = codes "$$SYMBOLS"; class = codes "DEBSYM"; align = 1; combine = 0; wide = true; len = 9; debug = true }

abbrev at : List ℕ → ℕ → ℕ → Pub
at name seg offset = record { name = name; local = false; place = In seg offset }

abbrev equal : List ℕ → ℕ → Pub
equal name value = record { name = name; local = false; place = Const value }

abbrev first_module : ObjModule
first_module = record empty_module {
  segs = symbols_seg ∷ data_seg [] 6 ∷ [];
  pubs = at (codes "z") 2 1 ∷ equal (codes "b") 7 ∷ record (at (codes "own") 2 0) { local = true } ∷ at (codes "b c") 2 3 ∷ [];
  exts = record { name = codes "c"; local = false; common = Some (record { far = false; len = 5 }) } ∷ [];
  imports = record { name = codes "i"; «module» = codes "Doscalls"; entry = Ordinal 12 } ∷ [];
}

abbrev second_module : ObjModule
second_module = record empty_module {
  segs = data_seg [] 2 ∷ [];
  pubs = equal (codes "a") 0xFFFFFFFF ∷ at (codes "aa") 1 0 ∷ at (codes "B") 1 0 ∷ [];
}

abbrev pub two_modules : Link
two_modules = library (first_module ∷ second_module ∷ [])

abbrev pub listed : ℕ → List ℕ → Listed
listed number name = record { number = number; name = name }

pub record WorkedLink : Type 0 where
  pub placed : placed_publics two_modules
      ≡ listed 0x10000001 (codes "z") ∷ listed 0x10000003 (codes "b c") ∷ listed 0x10000006 (codes "aa") ∷ listed 0x10000006 (codes "B") ∷ []
  pub valued : constants two_modules ≡ listed 7 (codes "b") ∷ listed 0xFFFFFFFF (codes "a") ∷ []
  -- names that differ in case alone
  pub capital : map_text (codes "TWO") two_modules (placed_publics two_modules) (constants two_modules)
      ≡ map_text (codes "two") two_modules (placed_publics two_modules) (constants two_modules)
  pub text : map_text (codes "two") two_modules (placed_publics two_modules) (constants two_modules)
      ≡ ln (codes "map TWO objects 1")
      ++ ln (codes "object 1 10000000 size 13 flags 00002003")
      ++ ln (codes "segment 2 10000000 6 % DATA 1")
      ++ ln (codes "segment 1 10000006 2 % DATA 2")
      ++ ln (codes "common 10000008 5 c")
      ++ ln (codes "public 10000001 z")
      ++ ln (codes "public 10000003 b%20c")
      ++ ln (codes "public 10000006 aa")
      ++ ln (codes "public 10000006 B")
      ++ ln (codes "constant 00000007 b")
      ++ ln (codes "constant FFFFFFFF a")
      ++ ln (codes "import i Doscalls @12")

-- The publics in order: by address and by name, capital letters first; and the constants by name.
abbrev pub WorkedOrder : Type 0
WorkedOrder =
    IsMap (codes "two") two_modules
    (ln (codes "map TWO objects 1")
    ++ ln (codes "object 1 10000000 size 13 flags 00002003")
    ++ ln (codes "segment 2 10000000 6 % DATA 1")
    ++ ln (codes "segment 1 10000006 2 % DATA 2")
    ++ ln (codes "common 10000008 5 c")
    ++ ln (codes "public 10000001 z")
    ++ ln (codes "public 10000003 b%20c")
    ++ ln (codes "public 10000006 B")
    ++ ln (codes "public 10000006 aa")
    ++ ln (codes "constant FFFFFFFF a")
    ++ ln (codes "constant 00000007 b")
    ++ ln (codes "import i Doscalls @12"))

-- ---- lines

pub record WorkedLines : Type 0 where
  pub ordinal : import_line (record { name = codes "f"; «module» = codes "lib"; entry = Ordinal 65535 }) ≡ ln (codes "import f lib @65535")
  pub named : import_line (record { name = codes "f"; «module» = codes "Lib"; entry = Named (codes "a%b") }) ≡ ln (codes "import f Lib a%25b")
  pub unnamed : import_line (record { name = []; «module» = codes "LIB"; entry = Named [] }) ≡ ln (codes "import % LIB %")
  pub common : common_line ([], record { far = true; len = 4096 }) 0x20000 ≡ ln (codes "common 00020000 4096 %")
  pub constant : constant_line (listed 0xEA551D48 (codes "p0")) ≡ ln (codes "constant EA551D48 p0")
