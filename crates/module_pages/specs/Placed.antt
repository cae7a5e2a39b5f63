-- A module of a library, where it stands under the bases of a load.
use Rattle.std.specs.Prelude.{ℕ, List}
use Rattle.lx_types.specs.declared.bases.Bases.{Bases}
use Rattle.lx_types.specs.declared.parts.Parts.{Parts}

pub record PlacedModule : Type 0 where
  pub library : List Parts
  pub «module» : ℕ
  pub bases : Bases
