-- An import library of the code, in the words of the definitions.
use Rattle.std.specs.Prelude.{◌≡◌, ℕ, ◌<◌, ◌≤◌, List, length}
use Rattle.obj_types.specs.declared.symbol.Imp.{Imp}
use Rattle.implib_model.specs.Library.{library_bytes, library_len}
use Rattle.implib_model.specs.Imports.{modules_of}
use Rattle.answer_model.specs.Loading.{file_limit}
use Rattle.implib_core.specs.declared.imports.ImportLibrary.{ImportLibrary}

pub record HasBytes (bytes : List ℕ) (imports : List Imp) : Type 0 where
  pub bytes_are : bytes ≡ library_bytes (modules_of imports)
  pub short : library_len (modules_of imports) ≤ file_limit

pub record IsLibraryOf (library : ImportLibrary) (imports : List Imp) : Type 0 where
  pub written : HasBytes library.bytes.items imports
  pub count : library.imports ≡ length imports

abbrev pub IsTooLong : List Imp → Type 0
IsTooLong imports = file_limit < library_len (modules_of imports)
