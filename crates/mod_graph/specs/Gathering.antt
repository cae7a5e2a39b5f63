-- What a library knows of its modules, and how it refuses modules.
use Rattle.std.specs.Prelude.{◌≡◌, ℕ, List, length, map, Option, Some}
use Rattle.std.specs.List.{range_with_len}
use Rattle.lx_types.specs.declared.fail.Fail.{Fail}
use Rattle.lx_types.specs.declared.fail.Fail.TheVariants.{Said, NoMemory}
use Rattle.lx_types.specs.declared.parts.Parts.{Parts}
use Rattle.lx_model.specs.declared.library.Health.{Health}
use Rattle.lx_model.specs.declared.library.LibraryRefusal.{LibraryRefusal}
use Rattle.lx_model.specs.Gathering.{IsLibrary, twice_at}
use Rattle.lx_model.specs.Reach.{Order, HealthOf}
use Rattle.lx_model.specs.Reading.{first}
use Rattle.mod_graph.specs.Names.{AreFound}

-- the least module whose name an earlier one has
abbrev pub name_fault : List Parts → Option LibraryRefusal
name_fault mods = first (map (twice_at mods) (range_with_len 0 (length mods)))

-- The modules make a library. Their entry points are found, and of each its order and its health are known.
pub record Knows (mods : List Parts) (names : List (List (List ℕ × ℕ))) (orders : List (List ℕ)) (healths : List Health) (places : ℕ) : Type 0 where
  pub library : IsLibrary mods
  pub found : AreFound mods names places
  pub ordered : orders ≡ map (Order mods) (range_with_len 0 (length mods))
  pub orders_count : length orders ≡ length mods
  pub judged : healths ≡ map (HealthOf mods) (range_with_len 0 (length mods))
  pub healths_count : length healths ≡ length mods

-- the refusal that is said is this one; want of memory says nothing
abbrev pub IsRefused : Fail LibraryRefusal → Option LibraryRefusal → Type 0
IsRefused (Said why) refusal = refusal ≡ Some why
IsRefused NoMemory refusal = Unit {0}
