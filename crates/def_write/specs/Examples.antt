-- What is written for values, worked by hand.
use Rattle.std.specs.Prelude.{◌≡◌, true, false, [], ◌∷◌, Some, None, codes}
use Rattle.lx_types.specs.declared.entry.EntryKey.TheVariants.{Ordinal, Named}
use Rattle.obj_types.specs.declared.definition.ModKind.TheVariants as modules
use Rattle.obj_types.specs.Defaults.{code_attrs, data_attrs}
use Rattle.def_file.specs.Examples.{lines, plain_program, named_item}
use Rattle.def_write.specs.Writing.{text_of}

pub record WorkedTexts : Type 0 where
  pub exports :
      text_of (record plain_program {
        exports =
            record (named_item (codes "F")) { ordinal = Some 2 }
            ∷ named_item (codes "G")
            ∷ record (named_item (codes "H")) { ordinal = Some 1 }
            ∷ [];
      })
      ≡ lines (codes "NAME"
      ∷ codes "DESCRIPTION ''"
      ∷ codes "CODE EXECUTEREAD READONLY NONSHARED LOADONCALL NONCONFORMING NOIOPL"
      ∷ codes "DATA READWRITE NONSHARED LOADONCALL NONCONFORMING NOIOPL"
      ∷ codes "SEGMENTS"
      ∷ codes "EXPORTS" ∷ codes " 'F' = 'F' @2" ∷ codes " 'G' = 'G'" ∷ codes " 'H' = 'H' @1"
      ∷ codes "IMPORTS"
      ∷ codes "STACKSIZE 0" ∷ codes "HEAPSIZE 0" ∷ [])
  pub each_statement :
      text_of (record {
        kind = modules.Library;
        name = Some (codes "L");
        init_each = true;
        term_each = false;
        about = codes "all; of it";
        stack = 8192;
        heap = 4294967295;
        base = Some 65536;
        code = record code_attrs { read = false; conforming = true };
        plain = record data_attrs { shared = true };
        segs =
            record { name = codes "A"; class = Some (codes "FAR_CODE"); attrs = record code_attrs { iopl = true } }
            ∷ record { name = codes "B"; class = None; attrs = record data_attrs { preload = true } }
            ∷ [];
        exports = record { name = codes "a"; internal = codes "b"; ordinal = Some 65535; resident = true; nodata = true; words = 31 } ∷ [];
        imports =
            record { name = codes "x"; «module» = codes "M"; entry = Ordinal 7 }
            ∷ record { name = codes "y"; «module» = codes "M"; entry = Named (codes "f g") }
            ∷ [];
      })
      ≡ lines (codes "LIBRARY 'L' INITINSTANCE TERMGLOBAL"
      ∷ codes "DESCRIPTION 'all; of it'"
      ∷ codes "CODE EXECUTEONLY READONLY NONSHARED LOADONCALL CONFORMING NOIOPL"
      ∷ codes "DATA READWRITE SHARED LOADONCALL NONCONFORMING NOIOPL"
      ∷ codes "SEGMENTS"
      ∷ codes " 'A' CLASS 'FAR_CODE' EXECUTEREAD READONLY NONSHARED LOADONCALL NONCONFORMING IOPL"
      ∷ codes " 'B' READWRITE NONSHARED PRELOAD NONCONFORMING NOIOPL"
      ∷ codes "EXPORTS" ∷ codes " 'a' = 'b' @65535 RESIDENTNAME NODATA 31"
      ∷ codes "IMPORTS" ∷ codes " 'x' = 'M'.7" ∷ codes " 'y' = 'M'.'f g'"
      ∷ codes "STACKSIZE 8192" ∷ codes "HEAPSIZE 4294967295" ∷ codes "BASE = 65536" ∷ [])
