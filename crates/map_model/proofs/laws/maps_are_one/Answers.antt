use Rattle.std.proofs.Common.{List, ap, sym, ◌∙◌}
use Rattle.map_model.specs.Listed.{Listed, placed_publics, constants}
use Rattle.map_model.specs.Maps.{by_number, by_name, map_text}
use Rattle.map_model.proofs.Sorting.{one_sorted}
use Rattle.map_model.proofs.Orders.{by_number-total, by_name-total, by_number-apart, by_name-apart}
use Rattle.map_model.proofs.laws.maps_are_one.Goals as goal

pub returns : goal.returns
returns c name l text other m n =
    let places = one_sorted by_number by_number-total by_number-apart (placed_publics l) m.places n.places m.by_address.same m.by_address.ascend n.by_address.same n.by_address.ascend in
    let values = one_sorted by_name by_name-total by_name-apart (constants l) m.values n.values m.by_name.same m.by_name.ascend n.by_name.same n.by_name.ascend in
    m.is ∙ ap (λ (ps : List Listed). map_text name l ps m.values) places ∙ ap (λ (vs : List Listed). map_text name l n.places vs) values ∙ sym n.is
