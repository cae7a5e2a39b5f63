use Rattle.std.proofs.Common.{◌≡◌, ◌∙◌, ◌<◌, All, ap, sym, map, subst, length, ℕ, refl}
use Rattle.std.proofs.lemmas.List.{length-map}
use Rattle.link_model.specs.Groups.{in_group}
use Rattle.link_model.specs.Layout.{place_of_part}
use Rattle.seg_parts.specs.LogicalSegments.{heads_of}
use Rattle.seg_parts.specs.Parts.{shown}
use Rattle.seg_merge.proofs.PartRows.{objects-few}
use Rattle.seg_merge.proofs.PlacesFound.{spots-found, commons-found, groups-found}
use Rattle.seg_merge.proofs.LinkGroups.{lists-below}
use Rattle.seg_merge.proofs.placing.places_of.Goals as goal

pub objects_of-requires : goal.objects_of-requires
objects_of-requires c = objects-few c.requires.0 c.args.standing.now.segments c.args.rows.now c.requires.1.rows_stand

pub flags_of_groups-requires-clause-below : goal.flags_of_groups-requires-clause-below
flags_of_groups-requires-clause-below c =
    let long : length c.args.standing.now.names ≡ length c.names.result.now = sym (ap length c.names.ensures) ∙ length-map c.names.result.now (λ n. n.now) in
    subst (λ (n : ℕ). All (λ v. All (λ g. g < n) v.items) c.args.groups.now) long
    (lists-below (λ v. v.items) c.args.groups.now (in_group c.requires.0) c.args.standing.now.names (heads_of c.args.standing.now.segments) c.requires.1.groups_are)

pub returns : goal.returns
returns c = λ l stand.
    let ms = map (λ m. m.now) c.args.modules.now in
    let groups = map (λ v. v.items) c.args.groups.now in
    let are = c.in_ok-places.ensures l stand.rows_stand in
    let long : length c.names.result.now ≡ length c.args.standing.now.names = sym (length-map c.names.result.now (λ n. n.now)) ∙ ap length c.names.ensures in
    record {
      spots = spots-found l ms c.args.standing.now.segments c.args.rows.now c.args.standing.now.names groups stand (λ v. v.items) c.in_ok-spots_of.field-0.items c.in_ok-places.places.items c.as_slice-2.result.now
          c.as_slice-2.ensures.value are c.in_ok-spots_of.ensures;
      commons = commons-found l ms c.args.standing.now.segments c.args.rows.now c.args.standing.now.names groups stand (map shown c.parts.result.now) c.in_ok-commons_of.field-0.items c.in_ok-places.places.items c.as_slice-3.result.now
          c.parts.ensures c.as_slice-3.ensures.value are (c.in_ok-commons_of.ensures (place_of_part l));
      groups = groups-found l ms c.args.standing.now.segments c.args.rows.now c.args.standing.now.names groups stand (λ v. v.items) c.in_ok-groups_of.field-0.items c.args.modules.now c.in_ok-numbers.numbers.items c.as_slice.result.now
          c.in_ok-objects.objects.items c.as_slice-4.result.now (length c.names.result.now) refl c.in_ok-numbers.ensures c.as_slice.ensures.value long c.in_ok-objects.ensures c.as_slice-4.ensures.value c.in_ok-groups_of.ensures;
    }
