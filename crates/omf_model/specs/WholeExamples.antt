-- A definition file and a link's input that are whole, and a file with one fixup too many.
use Rattle.std.specs.Prelude.{ℕ, true, false, List, [], ◌∷◌, ◌++◌, None, Some, codes, replicate}
use Rattle.lx_types.specs.declared.entry.EntryKey.TheVariants.{Named}
use Rattle.obj_types.specs.declared.definition.Attrs.{Attrs}
use Rattle.obj_types.specs.declared.definition.DefFile.{DefFile}
use Rattle.obj_types.specs.declared.definition.ModKind.TheVariants.{Library}
use Rattle.obj_types.specs.declared.input.LinkInput.{LinkInput}
use Rattle.omf_model.specs.Examples.{names, segment, module_a, piece, fix_at, imported}

abbrev pub shared_data : Attrs
shared_data = record { read = true; write = true; exec = false; shared = true; preload = false; conforming = false; iopl = false }

-- LIBRARY D, BASE 20000h, a segment, an export with an ordinal and an import by name.
abbrev pub definition_d : DefFile
definition_d = record {
  kind = Library;
  name = Some (codes "D");
  init_each = false;
  term_each = false;
  about = [];
  stack = 0;
  heap = 0;
  base = Some 0x20000;
  code = shared_data;
  plain = shared_data;
  segs = (record { name = codes "S"; class = None; attrs = shared_data }) ∷ [];
  exports = (record { name = codes "e"; internal = codes "e"; ordinal = Some 9; resident = false; nodata = false; words = 31 }) ∷ [];
  imports = (record { name = codes "f"; «module» = codes "M"; entry = Named (codes "f") }) ∷ [];
}

-- The object file of one segment with its fixup, the import library, and this definition file.
abbrev pub input_d : LinkInput
input_d = record {
  objects = module_a 8 (piece (replicate 8 0) ∷ []) (fix_at 9 4 ∷ []) ∷ [];
  libs = imported ∷ [];
  def = definition_d;
  stem = codes "d";
}

-- ---- LIDATA of one byte, 1,048,577 times, in a segment as long; and a fixup on that byte.

abbrev pub many_body : List ℕ
many_body = 0x01 ∷ 0x00 ∷ 0x10 ∷ 0x00 ∷ 0x00 ∷ 0x00 ∷ 0x01 ∷ 0xAA ∷ []

abbrev pub many_data : List ℕ
many_data = 0xA3 ∷ 0x0E ∷ 0x00 ∷ 0x01 ∷ 0x00 ∷ 0x00 ∷ 0x00 ∷ 0x00 ∷ [] ++ many_body ++ 0x00 ∷ []

abbrev pub byte_fixup : List ℕ
byte_fixup = 0x9D ∷ 0x06 ∷ 0x00 ∷ 0xC0 ∷ 0x07 ∷ 0x14 ∷ 0x01 ∷ 0x01 ∷ 0x00 ∷ []

abbrev pub one_too_many : List ℕ
one_too_many = names ++ segment (0x01 ∷ 0x00 ∷ 0x10 ∷ 0x00 ∷ []) ++ many_data ++ byte_fixup
