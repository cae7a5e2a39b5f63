use Rattle.std.proofs.Common.{◌≡◌, ◌++◌, drop}
use Rattle.std.specs.List.{flat_map}
use Rattle.implib_core.specs.NamePlaces.{places_in}
use Rattle.implib_core.proofs.module.places_in_order.Given as goal

abbrev pub invariant-loop-ordinal : goal.invariant-loop-ordinal
invariant-loop-ordinal l = l.order.items ++ flat_map (λ e. places_in l.places e.0) (drop l.ordinal-index l.entries) ≡ flat_map (λ e. places_in l.places e.0) l.entries
