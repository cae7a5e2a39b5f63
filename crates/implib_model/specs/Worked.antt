-- Worked values: imports by ordinal and by name, and a library of one of them.
use Rattle.std.specs.Prelude.{◌≡◌, ℕ, false, List, [], ◌∷◌, codes, None, Option, Some}
use Rattle.lx_types.specs.declared.entry.EntryKey.TheVariants.{Ordinal, Named}
use Rattle.obj_types.specs.declared.symbol.Exp.{Exp}
use Rattle.obj_types.specs.declared.symbol.Imp.{Imp}
use Rattle.omf_model.specs.Examples as examples
use Rattle.implib_model.specs.ImportModule.{entry_bytes, import_comment}
use Rattle.implib_model.specs.Library.{library_bytes}
use Rattle.implib_model.specs.Imports.{imports_for, modules_of, objects_of}
use Rattle.implib_model.specs.ModuleImports.{names_of}

-- ordinal 1 of D, imported as F
abbrev pub by_ordinal : Imp
by_ordinal = record { name = codes "F"; «module» = codes "D"; entry = Ordinal 1 }

-- f of m, imported as f
abbrev pub by_name : Imp
by_name = record { name = codes "f"; «module» = codes "m"; entry = Named (codes "f") }

abbrev pub export : List ℕ → List ℕ → Option ℕ → Exp
export name internal ordinal = record { name = name; internal = internal; ordinal = ordinal; resident = false; nodata = false; words = 0 }

pub record WorkedImports : Type 0 where
  -- the library of one import is the example that is read as the example's module
  pub library : library_bytes (modules_of (by_ordinal ∷ [])) ≡ examples.library
  pub meant : objects_of (by_ordinal ∷ []) ≡ examples.imported ∷ []
  -- the module's name is in upper case; the entry's name is left out where it is the import's
  pub named : import_comment by_name ≡ 0 ∷ 0xA0 ∷ 1 ∷ 0 ∷ 1 ∷ 0x66 ∷ 1 ∷ 0x4D ∷ 0 ∷ []
  pub other_name : entry_bytes (codes "f") (Named (codes "gh")) ≡ 2 ∷ 0x67 ∷ 0x68 ∷ []
  -- of two exports of D one has an ordinal, and the internal name of neither is imported
  pub exported :
      imports_for (codes "D") (export (codes "F") (codes "own") (Some 1) ∷ export (codes "G") (codes "G") None ∷ [])
      ≡ by_ordinal ∷ record { name = codes "G"; «module» = codes "D"; entry = Named (codes "G") } ∷ []
  -- all names of an ordinal
  pub names : names_of 2 ((codes "a", 2) ∷ (codes "b", 1) ∷ (codes "c", 2) ∷ []) ≡ (codes "a", 2) ∷ (codes "c", 2) ∷ []
