use Rattle.std.proofs.Common.{refl}
use Rattle.lx_model.specs.Entries.{Entry, followed}
use Rattle.lx_model.specs.Reach.{Order, visit, HealthOf}
use Rattle.lx_model.proofs.worked.cycles_are_ordered.Goals as goal

pub returns : goal.returns
unfolding Entry followed Order visit HealthOf
returns c = record { first = refl; second = refl; fit = refl; from_outside = refl; from_inside = refl; ring_fit = refl; itself = refl; itself_fit = refl; used = refl; unused = refl; asked = refl }
