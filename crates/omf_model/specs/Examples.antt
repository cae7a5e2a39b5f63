-- Files whose meaning is known from outside, as bytes.
use Rattle.std.specs.Prelude.{ℕ, List, [], ◌∷◌, ◌++◌, None, Some, false, true, codes, replicate}
use Rattle.lx_types.specs.declared.entry.EntryKey.TheVariants.{Ordinal, Named}
use Rattle.obj_types.specs.declared.object.ObjModule.{ObjModule}
use Rattle.obj_types.specs.declared.object.Seg.{Seg}
use Rattle.obj_types.specs.declared.object.Piece.{Piece}
use Rattle.obj_types.specs.declared.object.FixAt.{FixAt}
use Rattle.obj_types.specs.declared.object.Frame.TheVariants as frames
use Rattle.obj_types.specs.declared.object.Goal.TheVariants as goals
use Rattle.obj_types.specs.declared.symbol.PubPlace.TheVariants.{In, Const}
use Rattle.obj_types.specs.Fresh.{empty_module}

-- THEADR a; LNAMES with the empty name, CODE32, CODE and FLAT.
abbrev pub names : List ℕ
names =
    0x80 ∷ 0x03 ∷ 0x00 ∷ 0x01 ∷ 0x61 ∷ 0x00 ∷ []
    ++ 0x96 ∷ 0x13 ∷ 0x00 ∷ 0x00 ∷ 0x06 ∷ 0x43 ∷ 0x4F ∷ 0x44 ∷ 0x45 ∷ 0x33 ∷ 0x32 ∷ 0x04 ∷ 0x43 ∷ 0x4F ∷ 0x44 ∷ 0x45 ∷ 0x04 ∷ 0x46 ∷ 0x4C ∷ 0x41 ∷ 0x54
    ∷ 0x00 ∷ []

-- SEGDEF CODE32 of class CODE: doubleword, public, use32, of a length of four bytes; GRPDEF FLAT.
abbrev pub segment : List ℕ → List ℕ
segment len = 0x99 ∷ 0x09 ∷ 0x00 ∷ 0xA9 ∷ [] ++ len ++ 0x02 ∷ 0x03 ∷ 0x01 ∷ 0x00 ∷ 0x9A ∷ 0x02 ∷ 0x00 ∷ 0x04 ∷ 0x00 ∷ []

-- All of these, with a segment of so many bytes.
abbrev pub start : ℕ → List ℕ
start len = names ++ segment (len ∷ 0 ∷ 0 ∷ 0 ∷ [])

-- LEDATA of 8 zero bytes.
abbrev pub zero_data : List ℕ
zero_data = 0xA1 ∷ 0x0E ∷ 0x00 ∷ 0x01 ∷ 0x00 ∷ 0x00 ∷ 0x00 ∷ 0x00 ∷ 0x00 ∷ 0x00 ∷ 0x00 ∷ 0x00 ∷ 0x00 ∷ 0x00 ∷ 0x00 ∷ 0x00 ∷ 0x00 ∷ []

-- A 32-bit fixup at 4 to the segment, by group frame and segment target; the same by threads that the
-- record sets; and by threads that are not set.
abbrev pub fixup_record : List ℕ
fixup_record = 0x9D ∷ 0x06 ∷ 0x00 ∷ 0xE4 ∷ 0x04 ∷ 0x14 ∷ 0x01 ∷ 0x01 ∷ 0x00 ∷ []

abbrev pub thread_record : List ℕ
thread_record = 0x9D ∷ 0x08 ∷ 0x00 ∷ 0x00 ∷ 0x01 ∷ 0x44 ∷ 0x01 ∷ 0xE4 ∷ 0x04 ∷ 0x8C ∷ 0x00 ∷ []

abbrev pub unset_thread : List ℕ
unset_thread = 0x9D ∷ 0x04 ∷ 0x00 ∷ 0xE4 ∷ 0x04 ∷ 0x8C ∷ 0x00 ∷ []

abbrev pub end_record : List ℕ
end_record = 0x8A ∷ 0x02 ∷ 0x00 ∷ 0x00 ∷ 0x00 ∷ []

-- LIDATA: two times three times AB CD at 0; and a 16-bit fixup on its first content byte.
abbrev pub blocks_record : List ℕ
blocks_record = 0xA2 ∷ 0x0F ∷ 0x00 ∷ 0x01 ∷ 0x00 ∷ 0x00 ∷ 0x02 ∷ 0x00 ∷ 0x01 ∷ 0x00 ∷ 0x03 ∷ 0x00 ∷ 0x00 ∷ 0x00 ∷ 0x02 ∷ 0xAB ∷ 0xCD ∷ 0x00 ∷ []

abbrev pub blocks_fixup : List ℕ
blocks_fixup = 0x9D ∷ 0x06 ∷ 0x00 ∷ 0xC4 ∷ 0x09 ∷ 0x14 ∷ 0x01 ∷ 0x01 ∷ 0x00 ∷ []

abbrev pub code_segment : ℕ → Seg
code_segment len = record { name = codes "CODE32"; class = codes "CODE"; align = 5; combine = 2; wide = true; len = len; debug = false }

abbrev pub module_a : ℕ → List Piece → List FixAt → ObjModule
module_a len pieces fixes = record empty_module {
  name = codes "a";
  segs = code_segment len ∷ [];
  groups = (record { name = codes "FLAT"; members = [] }) ∷ [];
  pieces = pieces;
  fixes = fixes;
}

abbrev pub piece : List ℕ → Piece
piece content = record { seg = 1; offset = 0; bytes = content }

abbrev pub fix_at : ℕ → ℕ → FixAt
fix_at loc offset = record { seg = 1; offset = offset; loc = loc; selfrel = false; frame = frames.Group 1; goal = goals.Seg 1; disp = 0 }

-- The import library with one module, that imports F as ordinal 1 of D.
abbrev pub library : List ℕ
library =
    0xF0 ∷ 0x0D ∷ 0x00 ∷ 0x40 ∷ 0x00 ∷ 0x00 ∷ 0x00 ∷ 0x00 ∷ 0x00 ∷ 0x01 ∷ 0x00 ∷ 0x00 ∷ 0x00 ∷ 0x00 ∷ 0x00 ∷ 0x00 ∷ []
    ++ 0x80 ∷ 0x03 ∷ 0x00 ∷ 0x01 ∷ 0x46 ∷ 0x36 ∷ []
    ++ 0x88 ∷ 0x0B ∷ 0x00 ∷ 0x00 ∷ 0xA0 ∷ 0x01 ∷ 0x01 ∷ 0x01 ∷ 0x46 ∷ 0x01 ∷ 0x44 ∷ 0x01 ∷ 0x00 ∷ 0x3E ∷ []
    ++ 0x8A ∷ 0x02 ∷ 0x00 ∷ 0x00 ∷ 0x74 ∷ []
    ++ replicate 7 0
    ++ 0xF1 ∷ 0x0D ∷ 0x00 ∷ [] ++ replicate 13 0

abbrev pub imported : ObjModule
imported = record empty_module { name = codes "F"; imports = (record { name = codes "F"; «module» = codes "D"; entry = Ordinal 1 }) ∷ [] }

-- One record of each kind of symbol: LEXTDEF x; EXTDEF y; COMDEF z, FAR, 3 elements of 300 bytes; PUBDEF p
-- at 4 of the segment; LPUBDEF c, the constant 7; COMENT with a default library, an IMPDEF by name, an
-- EXPDEF with ordinal, no data and 2 words, and a translator's name; MODEND with the start p by external.
abbrev pub symbols : List ℕ
symbols =
    0xB4 ∷ 0x04 ∷ 0x00 ∷ 0x01 ∷ 0x78 ∷ 0x00 ∷ 0x00 ∷ []
    ++ 0x8C ∷ 0x04 ∷ 0x00 ∷ 0x01 ∷ 0x79 ∷ 0x00 ∷ 0x00 ∷ []
    ++ 0xB0 ∷ 0x09 ∷ 0x00 ∷ 0x01 ∷ 0x7A ∷ 0x00 ∷ 0x61 ∷ 0x03 ∷ 0x81 ∷ 0x2C ∷ 0x01 ∷ 0x00 ∷ []
    ++ 0x90 ∷ 0x08 ∷ 0x00 ∷ 0x00 ∷ 0x01 ∷ 0x01 ∷ 0x70 ∷ 0x04 ∷ 0x00 ∷ 0x00 ∷ 0x00 ∷ []
    ++ 0xB6 ∷ 0x0A ∷ 0x00 ∷ 0x00 ∷ 0x00 ∷ 0x34 ∷ 0x12 ∷ 0x01 ∷ 0x63 ∷ 0x07 ∷ 0x00 ∷ 0x00 ∷ 0x00 ∷ []
    ++ 0x88 ∷ 0x06 ∷ 0x00 ∷ 0x00 ∷ 0x9F ∷ 0x41 ∷ 0x42 ∷ 0x43 ∷ 0x00 ∷ []
    ++ 0x88 ∷ 0x0A ∷ 0x00 ∷ 0x00 ∷ 0xA0 ∷ 0x01 ∷ 0x00 ∷ 0x01 ∷ 0x66 ∷ 0x01 ∷ 0x4D ∷ 0x00 ∷ 0x00 ∷ []
    ++ 0x88 ∷ 0x0A ∷ 0x00 ∷ 0x00 ∷ 0xA0 ∷ 0x02 ∷ 0xA2 ∷ 0x01 ∷ 0x65 ∷ 0x00 ∷ 0x09 ∷ 0x00 ∷ 0x00 ∷ []
    ++ 0x88 ∷ 0x04 ∷ 0x00 ∷ 0x00 ∷ 0x00 ∷ 0x54 ∷ 0x00 ∷ []
    ++ 0x8A ∷ 0x07 ∷ 0x00 ∷ 0xC0 ∷ 0x52 ∷ 0x02 ∷ 0x05 ∷ 0x00 ∷ 0x00 ∷ 0x00 ∷ []

abbrev pub with_symbols : ObjModule
with_symbols = record (module_a 8 [] []) {
  exts =
      (record { name = codes "x"; local = true; common = None })
      ∷ (record { name = codes "y"; local = false; common = None })
      ∷ (record { name = codes "z"; local = false; common = Some (record { far = true; len = 900 }) }) ∷ [];
  pubs =
      (record { name = codes "p"; local = false; place = In 1 4 })
      ∷ (record { name = codes "c"; local = true; place = Const 7 }) ∷ [];
  deflibs = codes "ABC" ∷ [];
  imports = (record { name = codes "f"; «module» = codes "M"; entry = Named (codes "f") }) ∷ [];
  exports = (record { name = codes "e"; internal = codes "e"; ordinal = Some 9; resident = false; nodata = true; words = 2 }) ∷ [];
  start = Some (record { frame = frames.OfTarget; goal = goals.Ext 2; disp = 5 });
}
