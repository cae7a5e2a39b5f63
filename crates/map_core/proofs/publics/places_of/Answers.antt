use Rattle.std.proofs.Common.{ℕ, List, map, refl, Bor}
use Rattle.std.specs.List.{flat_map, enumerate_from}
use Rattle.std.specs.Ordering.{nat_cmp, ordering_then}
use Rattle.map_model.specs.Maps.{name_cmp, by_number}
use Rattle.map_core.specs.Shown.{by_address}
use Rattle.map_core.specs.Places.{placed_in_module}
use Rattle.map_core.proofs.Sorted.{in_order-shown}
use Rattle.map_core.proofs.publics.places_of.Goals as goal

pub returns : goal.returns
returns c =
    in_order-shown by_address (λ (a b : ℕ × Bor (List ℕ)). ordering_then (nat_cmp a.0 b.0) (name_cmp a.1.now b.1.now)) by_number (λ a b. refl)
    (flat_map (placed_in_module c.args.lay.now) (enumerate_from 1 (map (λ m. m.now) c.args.modules.now))) c.in_ok-places.places.items c.sort.new.self.items
    c.in_ok-places.ensures c.in_ok-sort.ensures.permutation c.in_ok-sort.ensures.sorted
