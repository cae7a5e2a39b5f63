use Rattle.std.proofs.Common.{◌≡◌, take}
use Rattle.std.specs.Prelude.{flat_map}
use Rattle.load_model.specs.State.{Residence}
use Rattle.load_model.specs.Entering.{ranges_of}
use Rattle.residence_table.specs.Residences.{residences}
use Rattle.residence_table.proofs.table.ResidenceTable.occupied.Given as goal

abbrev pub invariant-loop-row : goal.invariant-loop-row
invariant-loop-row g l = l.occupied ≡ flat_map (λ (r : Residence). ranges_of l.lib r.«module» r.bases) (take l.row-index (residences l.row-items))
