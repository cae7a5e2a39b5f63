use Rattle.std.proofs.Common.{refl}
use Rattle.map_model.specs.Listed.{placed_publics, constants}
use Rattle.map_model.specs.Maps.{by_number, by_name, map_text}
use Rattle.map_model.proofs.Sorting.{in_order, in_order_sorted, in_order_permutes}
use Rattle.map_model.proofs.Orders.{by_number-total, by_name-total}
use Rattle.map_model.proofs.laws.links_have_maps.Goals as goal

pub returns : goal.returns
returns c name l = (
  map_text name l (in_order by_number (placed_publics l)) (in_order by_name (constants l)),
  record {
    places = in_order by_number (placed_publics l);
    by_address = record { same = in_order_permutes by_number (placed_publics l); ascend = in_order_sorted by_number by_number-total (placed_publics l) };
    values = in_order by_name (constants l);
    by_name = record { same = in_order_permutes by_name (constants l); ascend = in_order_sorted by_name by_name-total (constants l) };
    is = refl;
  },
)
