use Rattle.std.proofs.Common.{◌≡◌, ◌-◌, ◌<◌, length}
use Rattle.lx_model.specs.Entries.{followed}
use Rattle.mod_graph.proofs.entries.spot_after.Given as goal

-- what the first place leads to is what this one does, in the places that are left
abbrev pub invariant-loop : goal.invariant-loop
invariant-loop l = (followed l.places l.mods l.fn.first ≡ followed (l.places - l.counter) l.mods l.place) × (l.place.0 < length l.mods)
