use Rattle.std.proofs.Common.{ℕ, List, map, refl, Bor}
use Rattle.std.specs.List.{flat_map, enumerate_from}
use Rattle.std.specs.Ordering.{nat_cmp, ordering_then}
use Rattle.map_model.specs.Maps as orders
use Rattle.map_core.specs.Shown.{by_name}
use Rattle.map_core.specs.Places.{valued_in_module}
use Rattle.map_core.proofs.Sorted.{in_order-shown}
use Rattle.map_core.proofs.publics.values_of.Goals as goal

pub returns : goal.returns
returns c =
    in_order-shown by_name (λ (a b : Bor (List ℕ) × ℕ). ordering_then (orders.name_cmp a.0.now b.0.now) (nat_cmp a.1 b.1)) orders.by_name (λ a b. refl)
    (flat_map (valued_in_module c.args.lay.now) (enumerate_from 1 (map (λ m. m.now) c.args.modules.now))) c.in_ok-values.values.items c.sort.new.self.items
    c.in_ok-values.ensures c.in_ok-sort.ensures.permutation c.in_ok-sort.ensures.sorted
