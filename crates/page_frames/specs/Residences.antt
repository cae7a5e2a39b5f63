-- A residence of a module in memory, as those who share its pages see it.
use Rattle.std.specs.Prelude.{ℕ, List}
use Rattle.lx_types.specs.declared.bases.Bases.{Bases}
use Rattle.lx_types.specs.declared.parts.Parts.{Parts}

-- the frames of a residence: of which library and module, under which serial number, where the objects stand that the module
-- reaches; and a mark, which all who hold them see
pub record FramesFor : Type 0 where
  pub library : List Parts
  pub serial : ℕ
  pub «module» : ℕ
  pub bases : Bases
  pub mark : ℕ

-- frames as their keeper has them, by the keeper's name
pub record KeptFor : Type 0 where
  pub frames : FramesFor
  pub keeper : ℕ

-- a keeper's name, and how many serial numbers it has given
pub record Keeping : Type 0 where
  pub name : ℕ
  pub given : ℕ

-- what is handed out of a residence: a keeper gives a serial number to one alone
pub record ResidenceFor : Type 0 where
  pub library : List Parts
  pub serial : ℕ
  pub «module» : ℕ
  pub bases : Bases
  pub keeper : ℕ

abbrev pub kept_by : ℕ → FramesFor → ResidenceFor
kept_by keeper f = record { library = f.library; serial = f.serial; «module» = f.«module»; bases = f.bases; keeper = keeper }
