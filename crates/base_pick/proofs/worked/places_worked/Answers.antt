use Rattle.std.proofs.Common.{refl}
use Rattle.base_pick.specs.Places.{places_from}
use Rattle.base_pick.proofs.worked.places_worked.Goals as goal

pub returns : goal.returns
unfolding places_from
returns c = record { linked = refl; after = refl; gap = refl; odd = refl; own = refl; whole = refl; full = refl }
