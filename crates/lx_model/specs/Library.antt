-- A library of modules, numbered from 0, and which module a name means.
use Rattle.std.specs.Prelude.{ℕ, ◌-◌, ◌&&◌, Bool, List, [], position, bytes_eq, slice_get, slice_index_or, Option, None, option_and_then}
use Rattle.lx_types.specs.declared.parts.Parts.{Parts}
use Rattle.lx_types.specs.Names.{uppercase}
use Rattle.lx_types.specs.Parts.{is_library_of}

-- a module that no library has
abbrev pub no_module : Parts
no_module = record {
  file = [];
  name = [];
  flags = 0;
  start = None;
  objects = [];
  pages = [];
  fix_spans = [];
  imports = [];
  procs_at = 0;
  entries = [];
  names = [];
  refs = [];
}

abbrev pub module_of : List Parts → ℕ → Parts
module_of lib m = slice_index_or lib m no_module

-- a module has a name: ASCII letters are compared in upper case
abbrev pub has_name : List ℕ → Parts → Bool
has_name name m = bytes_eq (uppercase m.name) (uppercase name)

-- the number of the module that has a name
abbrev pub module_named : List Parts → List ℕ → Option ℕ
module_named lib name = position (has_name name) lib

-- what an import means: the library of that name, and never a program
abbrev pub library_named : List Parts → List ℕ → Option ℕ
library_named lib name = position (λ m. is_library_of m && has_name name m) lib

-- what number `import` of a module's import modules means, from 1
abbrev pub import_of : List Parts → ℕ → ℕ → Option ℕ
import_of lib m import = option_and_then (library_named lib) (slice_get (module_of lib m).imports (import - 1))
