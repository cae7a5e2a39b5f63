-- What `implib OUT IN ..` comes to: one library with an import for each export of the files, in their order.
use Rattle.std.specs.Prelude.{ℕ, List, [], ◌∷◌, ◌++◌, codes, length, nat_le, if◌then◌else◌}
use Rattle.std.specs.Fmt.{decimal}
use Rattle.std.specs.List.{flat_map}
use Rattle.obj_types.specs.declared.symbol.Imp.{Imp}
use Rattle.implib_model.specs.Library.{library_bytes, library_len}
use Rattle.implib_model.specs.Imports.{imports_in, modules_of}
use Rattle.implib_model.specs.ModuleImports.{imports_named}
use Rattle.answer_model.specs.Loading.{file_limit}
use Rattle.answer_model.specs.Outcome.{Outcome, kept, refused}
use Rattle.answer_model.specs.Items.{Item, definition, linked}

-- The imports that a file gives. A definition file without a name stands for a module with the stem's name.
abbrev pub imports_of : List ℕ → Item → List Imp
imports_of stem (definition d) = imports_in d stem
imports_of stem (linked m) = imports_named m
imports_of stem _ = []

abbrev pub all_imports : List ℕ → List Item → List Imp
all_imports stem items = flat_map (imports_of stem) items

-- `exports N`
abbrev pub exports_line : ℕ → List ℕ
exports_line count = codes "exports " ++ (decimal count ++ 10 ∷ [])

abbrev pub implib_outcome : List ℕ → List Imp → Outcome
implib_outcome out imports =
    if nat_le (library_len (modules_of imports)) file_limit
    then kept out (library_bytes (modules_of imports)) (exports_line (length imports))
    else refused out (codes "LibraryLong")
