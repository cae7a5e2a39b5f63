-- Indexes of the names of modules, and what finds their entry points.
use Rattle.std.specs.Prelude.{◌≡◌, ℕ, ◌+◌, ◌<◌, ◌≤◌, List, [], length, slice_index_or}
use Rattle.lx_types.specs.declared.parts.Parts.{Parts}
use Rattle.lx_types.specs.Parts.{ordinal_named}
use Rattle.lx_model.specs.Library.{module_of}
use Rattle.lx_model.specs.Entries.{entry_count}
use Rattle.lx_types.specs.declared.limits.TheConstants.{MAX_MODULES}

-- There is an index for each module, in which each name has the ordinal that it has in the module's name tables.
pub record AreIndexed (mods : List Parts) (names : List (List (List ℕ × ℕ))) : Type 0 where
  pub count : length names ≡ length mods
  pub same : (m : ℕ) → m < length mods → (name : List ℕ) → ordinal_named (slice_index_or names m []) name ≡ ordinal_named (module_of mods m).names name

-- What finds the entry points of modules, of which there are few: their names are indexed, and it is known how many
-- places forwarders can come to.
pub record AreFound (mods : List Parts) (names : List (List (List ℕ × ℕ))) (places : ℕ) : Type 0 where
  pub few : length mods ≤ MAX_MODULES
  pub indexed : AreIndexed mods names
  pub counted : places ≡ entry_count mods + 1
