-- Definition files whose meaning or fault is known from outside.
use Rattle.std.specs.Prelude.{◌≡◌, ℕ, true, false, List, [], ◌∷◌, ◌++◌, Some, None, Result, Ok, Err, codes, replicate}
use Rattle.std.specs.List.{flat_map}
use Rattle.lx_types.specs.declared.entry.EntryKey.TheVariants.{Ordinal, Named}
use Rattle.obj_types.specs.declared.definition.DefFile.{DefFile}
use Rattle.obj_types.specs.declared.definition.ModKind.TheVariants as modules
use Rattle.obj_types.specs.declared.definition.SegAttrs.{SegAttrs}
use Rattle.obj_types.specs.declared.symbol.Exp.{Exp}
use Rattle.def_model.specs.declared.refusal.DefKind.{DefKind}
use Rattle.def_model.specs.declared.refusal.DefKind.TheVariants as kinds
use Rattle.def_model.specs.declared.refusal.DefRefusal.{DefRefusal}
use Rattle.obj_types.specs.Defaults.{code_attrs, data_attrs}
use Rattle.def_model.specs.Reading.{read_of}

abbrev pub lines : List (List ℕ) → List ℕ
lines texts = flat_map (λ text. text ++ 10 ∷ []) texts

abbrev pub fault : ℕ → DefKind → Result DefFile DefRefusal
fault line kind = Err (record { line = line; kind = kind })

-- What a file without statements says.
abbrev pub plain_program : DefFile
plain_program =
    record {
      kind = modules.Program;
      name = None;
      init_each = false;
      term_each = false;
      about = [];
      stack = 0;
      heap = 0;
      base = None;
      code = code_attrs;
      plain = data_attrs;
      segs = [];
      exports = [];
      imports = [];
    }

abbrev pub named_item : List ℕ → Exp
named_item name = record { name = name; internal = name; ordinal = None; resident = false; nodata = false; words = 0 }

abbrev pub segment_item : List ℕ → SegAttrs
segment_item name = record { name = name; class = None; attrs = data_attrs }

pub record WorkedFiles : Type 0 where
  pub empty : read_of [] ≡ Ok plain_program
  pub program : read_of (codes "NAME p WINDOWAPI ;'") ≡ Ok (record plain_program { name = Some (codes "p") })
  pub library :
      read_of (lines (codes "library 'NAME' initinstance" ∷ codes "DESCRIPTION\"it; is\"" ∷ codes "STACKSIZE 0x2000 HEAPSIZE 07"
      ∷ codes "BASE=65536 PROTMODE EXETYPE OS2" ∷ []))
      ≡ Ok (record plain_program {
        kind = modules.Library;
        name = Some
            (codes "NAME");
        init_each = true;
        about = codes "it; is";
        stack = 8192;
        heap = 7;
        base = Some 65536;
      })
  pub exports :
      read_of (codes "EXPORTS a b=F@7 RESIDENTNAME NODATA 3 'c d' 0x1F")
      ≡ Ok (record plain_program {
        exports =
            named_item (codes "a")
            ∷ record { name = codes "b"; internal = codes "F"; ordinal = Some 7; resident = true; nodata = true; words = 3 }
            ∷ record (named_item (codes "c d")) { words = 31 }
            ∷ [];
      })
  pub imports :
      read_of (codes "IMPORTS x=M.7 y='M'.f M.g")
      ≡ Ok (record plain_program {
        imports =
            record { name = codes "x"; «module» = codes "M"; entry = Ordinal 7 }
            ∷ record { name = codes "y"; «module» = codes "M"; entry = Named (codes "f") }
            ∷ record { name = codes "g"; «module» = codes "M"; entry = Named (codes "g") }
            ∷ [];
      })
  -- The words stand in any order, and CODE and DATA after the items that start from them.
  pub segments :
      read_of (lines (codes "SEGMENTS A CLASS 'xcode' B CLASS 'DATA' C EXECUTEONLY D SINGLE" ∷ codes "CODE PRELOAD READWRITE" ∷ codes "DATA NONE" ∷ []))
      ≡ Ok (record plain_program {
        code = record code_attrs { preload = true; write = true };
        segs =
            record { name = codes "A"; class = Some (codes "xcode"); attrs = record code_attrs { preload = true; write = true } }
            ∷ record (segment_item (codes "B")) { class = Some (codes "DATA") }
            ∷ record (segment_item (codes "C")) { attrs = record code_attrs { preload = true; write = true; read = false } }
            ∷ record (segment_item (codes "D")) { attrs = record data_attrs { shared = true } }
            ∷ [];
      })

pub record WorkedFaults : Type 0 where
  pub no_number : read_of (codes "HEAPSIZE 12abc") ≡ fault 1 kinds.Token
  pub unclosed : read_of (lines (codes "NAME" ∷ codes "DESCRIPTION 'x" ∷ [])) ≡ fault 2 kinds.Token
  pub alone : read_of (13 ∷ codes "NAME") ≡ fault 1 kinds.Token
  pub stub : read_of (codes "STUB 'x'") ≡ fault 1 kinds.Statement
  pub after_item : read_of (codes "IMPORTS x=OTHER.I 1") ≡ fault 1 kinds.Statement
  pub ended : read_of (lines (codes "BASE =" ∷ [])) ≡ fault 2 kinds.Expected
  pub empty_name : read_of (codes "NAME ''") ≡ fault 1 kinds.Expected
  pub by_ordinal : read_of (codes "IMPORTS m.0") ≡ fault 1 kinds.Expected
  pub text_for_number : read_of (codes "HEAPSIZE '" ++ replicate 256 65 ++ codes "'") ≡ fault 1 kinds.Expected
  pub ordinal : read_of (codes "EXPORTS F @0") ≡ fault 1 kinds.Number
  pub words : read_of (codes "EXPORTS F 32") ≡ fault 1 kinds.Number
  pub stack : read_of (codes "STACKSIZE 16777217") ≡ fault 1 kinds.Number
  pub heap : read_of (codes "HEAPSIZE 4294967296") ≡ fault 1 kinds.Number
  pub base : read_of (codes "BASE = 0x10001") ≡ fault 1 kinds.Number
  pub pair : read_of (lines (codes "DATA SHARED" ∷ codes "multiple" ∷ [])) ≡ fault 2 kinds.Conflict
  pub calls : read_of (codes "LIBRARY INITGLOBAL INITINSTANCE") ≡ fault 1 kinds.Conflict
  pub two_names : read_of (lines (codes "NAME A" ∷ codes "NAME B" ∷ [])) ≡ fault 2 kinds.Twice
  pub both : read_of (lines (codes "NAME" ∷ codes "LIBRARY" ∷ [])) ≡ fault 2 kinds.Twice
  pub two_lists : read_of (codes "CODE CODE") ≡ fault 1 kinds.Twice
  pub long_name : read_of (codes "NAME " ++ replicate 256 65) ≡ fault 1 kinds.TooLong
