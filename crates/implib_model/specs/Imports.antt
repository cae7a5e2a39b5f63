-- Which imports a definition file gives to those that link with its module.
-- "IMPLIB"; "EXPORTS".
use Rattle.std.specs.Prelude.{ℕ, List, map, Option, Some, None}
use Rattle.lx_types.specs.declared.entry.EntryKey.{EntryKey}
use Rattle.lx_types.specs.declared.entry.EntryKey.TheVariants.{Ordinal, Named}
use Rattle.obj_types.specs.declared.definition.DefFile.{DefFile}
use Rattle.obj_types.specs.declared.object.ObjModule.{ObjModule}
use Rattle.obj_types.specs.declared.symbol.Exp.{Exp}
use Rattle.obj_types.specs.declared.symbol.Imp.{Imp}
use Rattle.implib_model.specs.ImportModule.{import_bytes, import_object}

-- The module's name is the definition file's, or the stem where it gives none.
abbrev pub name_or : Option (List ℕ) → List ℕ → List ℕ
name_or (Some name) stem = name
name_or None stem = stem

-- An export is imported by its ordinal where it has one, otherwise by its name.
abbrev pub key_of : List ℕ → Option ℕ → EntryKey
key_of name (Some ordinal) = Ordinal ordinal
key_of name None = Named name

abbrev pub import_for : List ℕ → Exp → Imp
import_for from x = record { name = x.name; «module» = from; entry = key_of x.name x.ordinal }

-- One import for each export, in their order.
abbrev pub imports_for : List ℕ → List Exp → List Imp
imports_for from exports = map (import_for from) exports

abbrev pub imports_in : DefFile → List ℕ → List Imp
imports_in d stem = imports_for (name_or d.name stem) d.exports

-- ---- what imports are written as, and what that means

abbrev pub modules_of : List Imp → List (List ℕ)
modules_of imports = map import_bytes imports

abbrev pub objects_of : List Imp → List ObjModule
objects_of imports = map import_object imports
