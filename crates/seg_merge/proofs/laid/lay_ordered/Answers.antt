use Rattle.std.proofs.Common.{◌≡◌, ◌∙◌, ap, map, length, arith, List, ℕ}
use Rattle.std.specs.Option.{option_map}
use Rattle.link_model.specs.Layout as rules
use Rattle.link_model.specs.Rows.{Row}
use Rattle.seg_parts.specs.Placing.{placed_shown}
use Rattle.seg_merge.specs.Laid.{stack_row_in, first_base_of, sizes_in, rows_in}
use Rattle.seg_merge.specs.Ordered.{Ordered, ordered_shown}
use Rattle.seg_merge.proofs.LayOrdered.{AreUnits, are-units, units-below, rows-are, none-past, rows-below, as-many, few, together, pairs-are}
use Rattle.seg_merge.proofs.laid.lay_ordered.Goals as goal

pub rows_of-requires : goal.rows_of-requires
rows_of-requires c =
    let os : List Ordered = map ordered_shown c.args.ordered.now in
    let are : AreUnits os c.args.def.now.stack c.as_slice-3.result.now =
    are-units os c.args.def.now.stack c.as_slice-3.result.now c.in_ok-units.units.items c.as_slice-2.result.now c.in_ok-places.places.items c.as_slice-3.ensures.value c.in_ok-units.ensures.objects c.in_ok-units.ensures.units c.as_slice-2.ensures.value c.in_ok-places.ensures in
    units-below os c.args.def.now.stack c.as_slice-3.result.now c.len.result c.in_ok-flags.flags.items are (omega (arith, c.len.ensures, c.in_ok-flags.flags.ok)) c.in_ok-flags.ensures

pub sizes_of-requires : goal.sizes_of-requires
sizes_of-requires c =
    let os : List Ordered = map ordered_shown c.args.ordered.now in
    let are : AreUnits os c.args.def.now.stack c.as_slice-3.result.now =
    are-units os c.args.def.now.stack c.as_slice-3.result.now c.in_ok-units.units.items c.as_slice-2.result.now c.in_ok-places.places.items c.as_slice-3.ensures.value c.in_ok-units.ensures.objects c.in_ok-units.ensures.units c.as_slice-2.ensures.value c.in_ok-places.ensures in
    let len : c.len.result ≡ length c.as_slice-5.result.now = omega (arith, c.len.ensures, c.in_ok-flags.flags.ok, ap length c.as_slice-5.ensures.value) in
    as-many os c.args.def.now.stack c.len.result c.as_slice-3.result.now c.in_ok-rows.rows are c.in_ok-rows.ensures c.as_slice-4.result.now c.as_slice-5.result.now c.as_slice-4.ensures.value (c.as_slice-5.ensures.value ∙ c.in_ok-flags.ensures) len

pub laid_objects-requires-clause-few : goal.laid_objects-requires-clause-few
laid_objects-requires-clause-few c =
    let os : List Ordered = map ordered_shown c.args.ordered.now in
    let are : AreUnits os c.args.def.now.stack c.as_slice-3.result.now =
    are-units os c.args.def.now.stack c.as_slice-3.result.now c.in_ok-units.units.items c.as_slice-2.result.now c.in_ok-places.places.items c.as_slice-3.ensures.value c.in_ok-units.ensures.objects c.in_ok-units.ensures.units c.as_slice-2.ensures.value c.in_ok-places.ensures in
    let len : c.len.result ≡ length c.as_slice-5.result.now = omega (arith, c.len.ensures, c.in_ok-flags.flags.ok, ap length c.as_slice-5.ensures.value) in
    few os c.args.def.now.stack c.len.result c.as_slice-3.result.now c.in_ok-rows.rows are c.in_ok-rows.ensures c.as_slice-4.result.now c.as_slice-5.result.now c.as_slice-4.ensures.value (c.as_slice-5.ensures.value ∙ c.in_ok-flags.ensures) len
    c.as_slice-6.result.now (c.as_slice-6.ensures.value ∙ c.in_ok-sizes.ensures)

pub laid_objects-requires-clause-together : goal.laid_objects-requires-clause-together
laid_objects-requires-clause-together c =
    let os : List Ordered = map ordered_shown c.args.ordered.now in
    let are : AreUnits os c.args.def.now.stack c.as_slice-3.result.now =
    are-units os c.args.def.now.stack c.as_slice-3.result.now c.in_ok-units.units.items c.as_slice-2.result.now c.in_ok-places.places.items c.as_slice-3.ensures.value c.in_ok-units.ensures.objects c.in_ok-units.ensures.units c.as_slice-2.ensures.value c.in_ok-places.ensures in
    let len : c.len.result ≡ length c.as_slice-5.result.now = omega (arith, c.len.ensures, c.in_ok-flags.flags.ok, ap length c.as_slice-5.ensures.value) in
    together os c.args.def.now.stack c.len.result c.as_slice-3.result.now c.in_ok-rows.rows are c.in_ok-rows.ensures c.as_slice-4.result.now c.as_slice-5.result.now c.as_slice-4.ensures.value (c.as_slice-5.ensures.value ∙ c.in_ok-flags.ensures) len
    c.as_slice-6.result.now (c.as_slice-6.ensures.value ∙ c.in_ok-sizes.ensures)

pub stack_end-stack-requires : goal.stack_end-stack-requires
stack_end-stack-requires c =
    let os : List Ordered = map ordered_shown c.args.ordered.now in
    let are : AreUnits os c.args.def.now.stack c.as_slice-3.result.now =
    are-units os c.args.def.now.stack c.as_slice-3.result.now c.in_ok-units.units.items c.as_slice-2.result.now c.in_ok-places.places.items c.as_slice-3.ensures.value c.in_ok-units.ensures.objects c.in_ok-units.ensures.units c.as_slice-2.ensures.value c.in_ok-places.ensures in
    rows-below os c.args.def.now.stack c.len.result c.as_slice-3.result.now c.in_ok-rows.rows are c.in_ok-rows.ensures c.as_slice-7.result.now c.as_slice-7.ensures.value

pub returns : goal.returns
returns c =
    let os : List Ordered = map ordered_shown c.args.ordered.now in
    let size : ℕ = c.args.def.now.stack in
    let are : AreUnits os size c.as_slice-3.result.now =
    are-units os size c.as_slice-3.result.now c.in_ok-units.units.items c.as_slice-2.result.now c.in_ok-places.places.items c.as_slice-3.ensures.value c.in_ok-units.ensures.objects c.in_ok-units.ensures.units c.as_slice-2.ensures.value c.in_ok-places.ensures in
    let len : c.len.result ≡ length c.as_slice-5.result.now = omega (arith, c.len.ensures, c.in_ok-flags.flags.ok, ap length c.as_slice-5.ensures.value) in
    let rows : map placed_shown c.in_ok-rows.rows.rows.items ≡ rows_in size os = rows-are os size c.len.result c.as_slice-3.result.now c.in_ok-rows.rows are c.in_ok-rows.ensures in
    let pairs : c.as_slice-6.result.now ≡ sizes_in size os =
    pairs-are os size c.len.result c.as_slice-3.result.now c.in_ok-rows.rows are c.in_ok-rows.ensures c.as_slice-4.result.now c.as_slice-5.result.now c.as_slice-4.ensures.value (c.as_slice-5.ensures.value ∙ c.in_ok-flags.ensures) len
    c.as_slice-6.result.now (c.as_slice-6.ensures.value ∙ c.in_ok-sizes.ensures) in
    record {
      rows_are = rows;
      pass_none = none-past os size c.len.result c.as_slice-3.result.now c.in_ok-rows.rows are c.in_ok-rows.ensures;
      objects_are =
          c.in_ok-objects.ensures ∙ ap (λ (n : ℕ). rules.placed_from n c.as_slice-6.result.now) c.first_base.ensures
          ∙ ap (rules.placed_from (first_base_of c.args.def.now)) pairs;
      stack_is =
          c.stack_end-stack.ensures
          ∙ ap (λ (rs : List Row). option_map (λ (r : Row). (r.object, r.end)) (stack_row_in os rs)) (ap (map placed_shown) c.as_slice-7.ensures.value ∙ rows);
    }
