-- Which modules are a library.
use Rattle.std.specs.Prelude.{◌≡◌, ℕ, All, List, length, map, Option, Some, None, option_and_then, nat_lt, if◌then◌else◌}
use Rattle.std.specs.List.{range_with_len}
use Rattle.lx_types.specs.declared.parts.Parts.{Parts}
use Rattle.lx_model.specs.declared.library.LibraryRefusal.{LibraryRefusal}
use Rattle.lx_model.specs.declared.library.LibraryRefusal.TheVariants.{TooManyModules, NameTwice}
use Rattle.lx_model.specs.Reading.{first}
use Rattle.lx_model.specs.Module.{IsRead}
use Rattle.lx_model.specs.Library.{module_of, module_named}
use Rattle.lx_types.specs.declared.limits.TheConstants.{MAX_MODULES}

-- a module has the name of an earlier one
abbrev pub twice_at : List Parts → ℕ → Option LibraryRefusal
twice_at mods second =
    option_and_then (λ first. if nat_lt first second then Some (NameTwice first second) else None) (module_named mods (module_of mods second).name)

-- What is wrong with modules, in this order: there are too many; one has the name of another, the first such one.
unfoldable pub LibraryFault : List Parts → Option LibraryRefusal
LibraryFault mods =
    if nat_lt MAX_MODULES (length mods) then Some (TooManyModules (length mods)) else first (map (twice_at mods) (range_with_len 0 (length mods)))

-- A library: nothing is wrong with its modules, and each of them was read.
pub record IsLibrary (mods : List Parts) : Type 0 where
  pub faultless : LibraryFault mods ≡ None
  pub read : All IsRead mods
