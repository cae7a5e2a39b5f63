-- What becomes of a library in which a module stands with its resources bound.
use Rattle.std.specs.Prelude.{◌≡◌, ℕ, ◌<◌, List, length, Ok}
use Rattle.lx_types.specs.declared.parts.Parts.{Parts}
use Rattle.lx_model.specs.declared.library.Spot.{Spot}
use Rattle.lx_model.specs.Entries.{OrdinalOf, Entry}
use Rattle.lx_model.specs.Gathering.{IsLibrary}
use Rattle.lx_model.specs.Library.{module_of}
use Rattle.lx_model.specs.Module.{parts_of}
use Rattle.lx_model.specs.Reach.{Order, IsFit}
use Rattle.res_model.specs.declared.item.ResItem.{ResItem}
use Rattle.res_model.specs.Bound.{bound_file}
use Rattle.res_laws.specs.Binding.{CanBind, with_module}

-- The other modules are a library too. What is loaded with a module is the same, in the same order; a module that was fit is
-- fit, and an entry point that had a spot has it.
pub record Serves (lib other : List Parts) : Type 0 where
  pub library : IsLibrary other
  pub order : (m : ℕ) → Order other m ≡ Order lib m
  pub fit : (m : ℕ) → IsFit lib m → IsFit other m
  pub entries : (place : OrdinalOf) (s : Spot) → Entry lib place ≡ Ok s → Entry other place ≡ Ok s

-- The bound module serves in the place of the old one, in whatever library that stands.
abbrev pub BoundModulesServe : Type 0
BoundModulesServe =
    (m : Parts) (items : List ResItem) (lib : List Parts) (k : ℕ) → CanBind m items → IsLibrary lib → k < length lib → module_of lib k ≡ m →
    Serves lib (with_module lib k (parts_of (bound_file m.file items)))
