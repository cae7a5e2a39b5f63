-- What the tests keep of an entry to the next.
use Rattle.load_model.specs.Modules.{Library}
use Rattle.residence_table.specs.Residences.{residences}
use Rattle.residence_tests.specs.declared.entries.Kept.{Kept}
use Rattle.residence_tests.specs.Sound.{AllSound, CountsSound}

pub record KeptSound (lib : Library) (kept : Kept) : Type 0 where
  pub rows : CountsSound lib kept.holding.refs kept.holding.started.items
  pub table : AllSound lib (residences kept.resident.table) 0 kept.resident.serials
