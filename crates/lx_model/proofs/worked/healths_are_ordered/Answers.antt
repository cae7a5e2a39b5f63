use Rattle.std.proofs.Common.{refl}
use Rattle.lx_model.specs.Entries.{Entry, followed}
use Rattle.lx_model.specs.Reach.{Order, visit, HealthOf}
use Rattle.lx_model.proofs.worked.healths_are_ordered.Goals as goal

pub returns : goal.returns
unfolding Entry followed Order visit HealthOf
returns c = record { import_first = refl; entry_first = refl; loop_first = refl; gate_last = refl; import_of_later = refl; entry_of_later = refl; loop_of_later = refl; first_of_two = refl; first_loop = refl; first_gate = refl; fit = refl }
