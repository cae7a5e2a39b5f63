use Rattle.std.proofs.Common.{◌≡◌, ◌-◌, ◌*◌, ◌≤◌, ◌++◌, take, drop}
use Rattle.omf_model.specs.Copies.{repeated}
use Rattle.omf_fix.proofs.found.repeat_places.Given as goal

abbrev pub invariant-copies : goal.invariant-copies
invariant-copies l = (l.places.items ≡ take l.start l.initial.places.items ++ repeated l.done l.unit (drop l.start l.initial.places.items)) × (l.shift ≡ l.done * l.unit) × (1 ≤ l.done) × (l.done ≤ l.times)

abbrev pub decreases-copies : goal.decreases-copies
decreases-copies l = l.times - l.done
