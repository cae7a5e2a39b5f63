-- Imports that are lent, as the imports that they are.
use Rattle.std.specs.Prelude.{ℕ, List, map}
use Rattle.std.specs.List.{flat_map, AllByRecursion}
use Rattle.lx_types.specs.declared.entry.EntryKey.{EntryKey}
use Rattle.lx_types.specs.declared.entry.EntryKey.TheVariants.{Ordinal, Named}
use Rattle.obj_types.specs.declared.symbol.Imp.{Imp}
use Rattle.implib_model.specs.ImportModule.{ImportFits, NamesFit, import_bytes}
use Rattle.implib_model.specs.Library.{page_up}
use Rattle.omf_write.specs.declared.lent.LentEntry.{LentEntry}
use Rattle.omf_write.specs.declared.lent.LentEntry.TheVariants as lent
use Rattle.omf_write.specs.declared.lent.LentImport.{LentImport}

abbrev pub key_of : LentEntry → EntryKey
key_of (lent.Ordinal n) = Ordinal n
key_of (lent.Named name) = Named name.now

abbrev pub import_of : LentImport → Imp
import_of i = record { name = i.name.now; «module» = i.«module».now; entry = key_of i.entry }

abbrev pub imports_of : List LentImport → List Imp
imports_of imports = map import_of imports

-- Each can be written.
abbrev pub AllFit : List LentImport → Type 0
AllFit imports = AllByRecursion (λ i. ImportFits (import_of i)) imports

abbrev pub AllNamesFit : List LentImport → Type 0
AllNamesFit imports = AllByRecursion (λ i. NamesFit (import_of i)) imports

-- The object modules of imports, each up to a page's end.
abbrev pub page_of : LentImport → List ℕ
page_of i = page_up (import_bytes (import_of i))

abbrev pub pages_for : List LentImport → List ℕ
pages_for imports = flat_map page_of imports
