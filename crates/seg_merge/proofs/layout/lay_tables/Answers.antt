use Rattle.std.proofs.Common.{◌≡◌, ◌∙◌, ap, sym, map, length, arith, List, Some, None}
use Rattle.std.proofs.lemmas.List.{length-map}
use Rattle.obj_types.specs.declared.object.ObjModule.{ObjModule}
use Rattle.link_model.specs.LayoutRefusals.{too_large, too_large_in}
use Rattle.link_model.specs.Order.{ordered}
use Rattle.seg_parts.specs.LogicalSegments.{heads_of}
use Rattle.seg_parts.specs.Parts.{shown}
use Rattle.lx_types.proofs.Failing.{handed_on}
use Rattle.link_types.specs.declared.layout.Layout.{Layout}
use Rattle.seg_merge.specs.Laid.{AreLaid, rows_in}
use Rattle.link_types.specs.Layout.{IsLaidOut}
use Rattle.seg_merge.specs.Ordered.{Ordered, ordered_shown}
use Rattle.seg_merge.proofs.Gets.{each-below}
use Rattle.seg_merge.proofs.LaidLinks.{all_in}
use Rattle.seg_merge.proofs.LaySegments.{slice-is, too-large, laid-none, laid-objects, laid-stack, as-many, some-each, stands-with}
use Rattle.seg_merge.proofs.TableLengths.{below, flags-long, objects-long, parts-long}
use Rattle.seg_merge.proofs.layout.lay_tables.Goals as goal

pub ordered_of-requires-clause-below : goal.ordered_of-requires-clause-below
ordered_of-requires-clause-below c =
    let s = c.requires.stand.1 in
    below c.args.def.now c.args.standing.now.segments c.args.standing.now.names s.members c.args.tables.now s.tables c.args.standing.now.order.now (ordered c.requires.stand.0) s.in_order.order_is

pub ordered_of-requires-clause-flags : goal.ordered_of-requires-clause-flags
ordered_of-requires-clause-flags c =
    let s = c.requires.stand.1 in
    flags-long c.args.def.now c.args.standing.now.segments c.args.standing.now.names s.members c.args.tables.now s.tables

pub ordered_of-requires-clause-objects : goal.ordered_of-requires-clause-objects
ordered_of-requires-clause-objects c =
    let s = c.requires.stand.1 in
    objects-long c.args.def.now c.args.standing.now.segments c.args.standing.now.names s.members c.args.tables.now s.tables

pub ordered_of-requires-clause-parts : goal.ordered_of-requires-clause-parts
ordered_of-requires-clause-parts c =
    let s = c.requires.stand.1 in
    parts-long c.args.def.now c.args.standing.now.segments c.args.standing.now.names s.members c.args.tables.now s.tables

pub returns-in-Err : goal.returns-in-Err
returns-in-Err c = λ l s.
    let os : List Ordered = map ordered_shown c.as_slice.result.now in
    let e : os ≡ all_in l =
    slice-is l (map (λ m. m.now) c.args.modules.now) c.args.def.now c.args.standing.now s.members s.in_order c.args.tables.now c.in_ok-ordered.ordered.items c.as_slice.result.now s.tables c.in_ok-ordered.ensures c.as_slice.ensures.value in
    handed_on c.in-Err.fail
    (AreLaid c.args.def.now os)
    (λ (layout : Layout). (too_large l ≡ None) × IsLaidOut l layout)
    (λ refusal. too_large_in (rows_in c.args.def.now.stack os) ≡ Some refusal)
    (λ refusal. too_large l ≡ Some refusal)
    (λ refusal h. too-large l (map (λ m. m.now) c.args.modules.now) c.args.def.now c.args.standing.now s.members s.in_order os e ∙ h)
    c.in-Err.ensures

pub rows_by_number-requires-clause-below : goal.rows_by_number-requires-clause-below
rows_by_number-requires-clause-below c = λ k d lt.
    let s = c.requires.stand.1 in
    let counted : length c.heads-count.result.now ≡ length (heads_of c.args.standing.now.segments) = sym (length-map c.heads-count.result.now shown) ∙ ap length c.heads-count.ensures in
    omega (arith, counted, each-below (heads_of c.args.standing.now.segments) c.args.standing.now.order.now (ordered c.requires.stand.0) s.in_order.order_is k d lt)

pub rows_by_number-requires-clause-some : goal.rows_by_number-requires-clause-some
rows_by_number-requires-clause-some c =
    let s = c.requires.stand.1 in
    let counted : length c.heads-count.result.now ≡ length (heads_of c.args.standing.now.segments) = sym (length-map c.heads-count.result.now shown) ∙ ap length c.heads-count.ensures in
    some-each c.requires.stand.0 (map (λ m. m.now) c.args.modules.now) c.args.def.now c.args.standing.now s.members s.in_order (length c.heads-count.result.now) counted

pub rows_by_number-requires-clause-as_many : goal.rows_by_number-requires-clause-as_many
rows_by_number-requires-clause-as_many c =
    let l = c.requires.stand.0 in
    let s = c.requires.stand.1 in
    let os : List Ordered = map ordered_shown c.as_slice.result.now in
    let e : os ≡ all_in l =
    slice-is l (map (λ m. m.now) c.args.modules.now) c.args.def.now c.args.standing.now s.members s.in_order c.args.tables.now c.in_ok-ordered.ordered.items c.as_slice.result.now s.tables c.in_ok-ordered.ensures c.as_slice.ensures.value in
    as-many l (map (λ m. m.now) c.args.modules.now) c.args.def.now c.args.standing.now s.members s.in_order os c.in-Ok.laid c.as_slice-in-Ok.result.now e c.in-Ok.ensures c.as_slice-in-Ok.ensures.value

pub places_of-requires : goal.places_of-requires
places_of-requires c =
    let l = c.requires.stand.0 in
    let s = c.requires.stand.1 in
    let mods : List ObjModule = map (λ m. m.now) c.args.modules.now in
    let os : List Ordered = map ordered_shown c.as_slice.result.now in
    let e : os ≡ all_in l =
    slice-is l mods c.args.def.now c.args.standing.now s.members s.in_order c.args.tables.now c.in_ok-ordered.ordered.items c.as_slice.result.now s.tables c.in_ok-ordered.ensures c.as_slice.ensures.value in
    let counted : length c.heads-count.result.now ≡ length (heads_of c.args.standing.now.segments) = sym (length-map c.heads-count.result.now shown) ∙ ap length c.heads-count.ensures in (
      l,
      stands-with l mods c.args.def.now c.args.standing.now s.members s.in_order os c.in-Ok.laid c.args.tables.now c.as_slice-in-Ok-2.result.now c.in_ok-rows-in-Ok.rows.items c.as_slice-in-Ok.result.now
          (length c.heads-count.result.now) c.as_slice-groups.result.now e c.in-Ok.ensures s.tables counted c.as_slice-in-Ok-2.ensures.value c.in_ok-rows-in-Ok.ensures c.as_slice-in-Ok.ensures.value c.as_slice-groups.ensures.value,
    )

pub returns : goal.returns
returns c = λ l s.
    let mods : List ObjModule = map (λ m. m.now) c.args.modules.now in
    let os : List Ordered = map ordered_shown c.as_slice.result.now in
    let e : os ≡ all_in l =
    slice-is l mods c.args.def.now c.args.standing.now s.members s.in_order c.args.tables.now c.in_ok-ordered.ordered.items c.as_slice.result.now s.tables c.in_ok-ordered.ensures c.as_slice.ensures.value in
    let counted : length c.heads-count.result.now ≡ length (heads_of c.args.standing.now.segments) = sym (length-map c.heads-count.result.now shown) ∙ ap length c.heads-count.ensures in (
      laid-none l mods c.args.def.now c.args.standing.now s.members s.in_order os c.in-Ok.laid e c.in-Ok.ensures,
      record {
        objects = laid-objects l mods c.args.def.now c.args.standing.now s.members s.in_order os c.in-Ok.laid e c.in-Ok.ensures;
        places =
            c.in_ok-places_of-in-Ok.ensures l
            (stands-with l mods c.args.def.now c.args.standing.now s.members s.in_order os c.in-Ok.laid c.args.tables.now c.as_slice-in-Ok-2.result.now c.in_ok-rows-in-Ok.rows.items c.as_slice-in-Ok.result.now
            (length c.heads-count.result.now) c.as_slice-groups.result.now e c.in-Ok.ensures s.tables counted c.as_slice-in-Ok-2.ensures.value c.in_ok-rows-in-Ok.ensures c.as_slice-in-Ok.ensures.value c.as_slice-groups.ensures.value);
        stack = laid-stack l mods c.args.def.now c.args.standing.now s.members s.in_order os c.in-Ok.laid e c.in-Ok.ensures;
      },
    )
