-- A layout by logical segments in order is that of the link.
use Rattle.std.specs.Prelude.{◌≡◌, ℕ, ◌<◌, List, Some, None, map, filter, length, slice_get}
use Rattle.std.specs.Option.{option_map}
use Rattle.std.proofs.Common.{Vec, Global, ap, sym, subst, ◌∙◌}
use Rattle.std.specs.List.{All, range_with_len}
use Rattle.std.proofs.lemmas.List.{length-map}
use Rattle.std.proofs.lemmas.Simd.{map-map}
use Rattle.obj_types.specs.declared.definition.DefFile.{DefFile}
use Rattle.obj_types.specs.declared.object.ObjModule.{ObjModule}
use Rattle.link_model.specs.declared.keys.ObjectKey.{ObjectKey}
use Rattle.link_model.specs.declared.keys.SegmentKey.{SegmentKey}
use Rattle.link_model.specs.Link.{Link}
use Rattle.link_model.specs.Groups.{in_group}
use Rattle.link_model.specs.Parts.{Part, joins}
use Rattle.link_model.specs.Flags.{flags_of}
use Rattle.link_model.specs.Order.{ordered}
use Rattle.link_model.specs.Rows.{Row, rows, row_of}
use Rattle.link_model.specs.Layout as rules
use Rattle.link_model.specs.LayoutRefusals.{too_large, too_large_in}
use Rattle.seg_parts.specs.declared.rows.Placed.{Placed}
use Rattle.seg_parts.specs.Attributes.{flags_in}
use Rattle.seg_parts.specs.LogicalSegments.{heads_of}
use Rattle.seg_parts.specs.Objects.{object_shown}
use Rattle.seg_parts.specs.Order.{gathered}
use Rattle.seg_parts.specs.Parts.{shown}
use Rattle.seg_parts.specs.Placing.{placed_shown}
use Rattle.seg_merge.specs.declared.in_order.StandingSegments.{StandingSegments}
use Rattle.seg_merge.specs.declared.laid.Laid.{Laid}
use Rattle.seg_merge.specs.declared.ordered.OrderedSegment.{OrderedSegment}
use Rattle.seg_merge.specs.declared.ordered.Tables.{Tables}
use Rattle.seg_merge.specs.ByNumber.{row_at}
use Rattle.seg_merge.specs.InOrder.{AreTables, InOrder}
use Rattle.seg_merge.specs.Laid as laid
use Rattle.seg_merge.specs.Membership.{AreGroupsOf}
use Rattle.seg_merge.specs.Ordered.{Ordered, all_parts, ordered_shown, ordered_in, key_at, table_at}
use Rattle.seg_merge.specs.Standing.{StandsSo}
use Rattle.seg_merge.proofs.Gets.{pointwise}
use Rattle.seg_merge.proofs.LaidLinks.{Got, all_in, rows-in-is, too-large-is, objects-are, stack-is}
use Rattle.seg_merge.proofs.LinkGroups.{in-link}
use Rattle.seg_merge.proofs.OrderedSegments.{ordered-at-is}
use Rattle.seg_merge.proofs.RowsOfLinks.{row-segments, each-some, rows-by-number}
use Rattle.seg_merge.proofs.UnitsOfLinks.{placed-in}

module _ (l : Link) (modules : List ObjModule) (def : DefFile) (standing : StandingSegments) (members : List (List ℕ × SegmentKey)) (i : InOrder l modules def standing members) where
  pub in-order : map (slice_get (heads_of (all_parts l))) standing.order.now ≡ map (λ (s : Part). Some s) (ordered l)
  in-order = ap (λ (t : List Part). map (slice_get (heads_of t)) standing.order.now) (sym i.parts_are) ∙ i.order_is

  pub got : Got l
  got t j = placed-in (heads_of (all_parts l)) standing.order.now (ordered l) t in-order j

  pub groups-are : (t : Tables) → AreTables def standing.segments standing.names members t → AreGroupsOf (in_group l) standing.names (heads_of standing.segments) (map (λ v. v.items) t.groups.items)
  groups-are t a = in-link l members standing.names (heads_of standing.segments) (map (λ v. v.items) t.groups.items) (sym i.members_are) a.groups_are

  -- The logical segments of the tables are those of the link.
  ordered-are : (t : Tables) → AreTables def standing.segments standing.names members t → map (table_at t) standing.order.now ≡ all_in l
  ordered-are t a =
      let hs : List Part = map shown t.heads.items in
      let keys : List ObjectKey = map object_shown t.objects.items in
      let flags : List ℕ = t.flags.items in
      let lists : List (List Part) = map (λ v. map shown v.items) t.parts.items in
      let groups : List (List ℕ) = map (λ v. v.items) t.groups.items in
      let all : List Part = heads_of (all_parts l) in
      let hs_are : hs ≡ all = a.heads_are ∙ ap heads_of i.parts_are in
      let keys_are : keys ≡ map (key_at all flags standing.names groups) (range_with_len 0 (length all)) = a.objects_are ∙ ap (λ (qs : List Part). map (key_at (heads_of qs) flags standing.names groups) (range_with_len 0 (length (heads_of qs)))) i.parts_are in
      let lists_are : lists ≡ map (λ s. filter (joins s) (all_parts l)) all = a.parts_are ∙ ap (λ (qs : List Part). map (λ s. filter (joins s) qs) (heads_of qs)) i.parts_are in
      let flags_are : flags ≡ map (flags_of l) all = a.flags_are ∙ ap (λ (d : DefFile). map (flags_in d) (heads_of standing.segments)) i.def_is ∙ ap (λ (qs : List Part). map (flags_in l.def) (heads_of qs)) i.parts_are in
      let groups_are : AreGroupsOf (in_group l) standing.names all groups = subst (λ (qs : List Part). AreGroupsOf (in_group l) standing.names (heads_of qs) groups) i.parts_are (groups-are t a) in
      pointwise (table_at t) (ordered_in l) all
      (λ k s e. ordered-at-is l hs keys flags lists standing.names groups hs_are keys_are flags_are lists_are i.names_are groups_are k s e)
      standing.order.now (ordered l) in-order

  pub slice-is : (t : Tables) (items slice : List OrderedSegment) → AreTables def standing.segments standing.names members t → map ordered_shown items ≡ map (table_at t) standing.order.now → slice ≡ items → map ordered_shown slice ≡ all_in l
  slice-is t items slice a shown_are same = ap (map ordered_shown) same ∙ shown_are ∙ ordered-are t a

  rows_in_is : (os : List Ordered) → os ≡ all_in l → laid.rows_in def.stack os ≡ laid.rows_in l.def.stack (all_in l)
  rows_in_is os e = ap (λ (d : DefFile). laid.rows_in d.stack os) i.def_is ∙ ap (laid.rows_in l.def.stack) e

  pub too-large : (os : List Ordered) → os ≡ all_in l → too_large l ≡ too_large_in (laid.rows_in def.stack os)
  too-large os e = too-large-is l got ∙ ap too_large_in (sym (rows_in_is os e))

  pub laid-rows : (os : List Ordered) (r : Laid) → os ≡ all_in l → laid.AreLaid def os r → map placed_shown r.rows.items ≡ rows l
  laid-rows os r e a = a.rows_are ∙ rows_in_is os e ∙ rows-in-is l got

  pub laid-none : (os : List Ordered) (r : Laid) → os ≡ all_in l → laid.AreLaid def os r → too_large l ≡ None
  laid-none os r e a = too-large os e ∙ a.pass_none

  pub laid-objects : (os : List Ordered) (r : Laid) → os ≡ all_in l → laid.AreLaid def os r → r.objects ≡ rules.objects l
  laid-objects os r e a =
      a.objects_are
      ∙ ap (λ (d : DefFile). rules.placed_from (laid.first_base_of d) (laid.sizes_in d.stack os)) i.def_is
      ∙ ap (λ (t : List Ordered). rules.placed_from (laid.first_base_of l.def) (laid.sizes_in l.def.stack t)) e
      ∙ objects-are l got

  pub laid-stack : (os : List Ordered) (r : Laid) → os ≡ all_in l → laid.AreLaid def os r → r.stack ≡ rules.stack_top l
  laid-stack os r e a =
      a.stack_is
      ∙ ap (λ (d : DefFile). option_map (λ (q : Row). (q.object, q.end)) (laid.stack_row_in os (laid.rows_in d.stack os))) i.def_is
      ∙ ap (λ (t : List Ordered). option_map (λ (q : Row). (q.object, q.end)) (laid.stack_row_in t (laid.rows_in l.def.stack t))) e
      ∙ stack-is l got

  pub as-many : (os : List Ordered) (r : Laid) (placed : List Placed) → os ≡ all_in l → laid.AreLaid def os r → placed ≡ r.rows.items → length placed ≡ length standing.order.now
  as-many os r placed e a same =
      let placed_are : length placed ≡ length (rows l) = ap length same ∙ sym (length-map r.rows.items placed_shown) ∙ ap length (laid-rows os r e a) in
      let rows_are : length (rows l) ≡ length (ordered l) = sym (length-map (rows l) (λ (q : Row). q.segment)) ∙ ap length (row-segments l) in
      let order_is : length standing.order.now ≡ length (ordered l) = sym (length-map standing.order.now (slice_get (heads_of (all_parts l)))) ∙ ap length in-order ∙ length-map (ordered l) (λ (s : Part). Some s) in
      placed_are ∙ rows_are ∙ sym order_is

  pub some-each : (count : ℕ) → count ≡ length (heads_of standing.segments) → All (λ places. 0 < length places) (gathered standing.order.now count)
  some-each count len = each-some l standing.order.now count in-order (len ∙ ap (λ (qs : List Part). length (heads_of qs)) i.parts_are)

  -- The rows by number are as the places ask for them.
  pub stands-so : (os : List Ordered) (r : Laid) (t : Tables) (placed : List Placed) (count : ℕ) → os ≡ all_in l → laid.AreLaid def os r → AreTables def standing.segments standing.names members t → count ≡ length (heads_of standing.segments) →
      map placed_shown placed ≡ map (row_at (map placed_shown r.rows.items)) (gathered standing.order.now count) → StandsSo l modules standing.segments placed standing.names (map (λ v. v.items) t.groups.items)
  stands-so os r t placed count e a tables len rows_are =
      let counted : count ≡ length (heads_of (all_parts l)) = len ∙ ap (λ (qs : List Part). length (heads_of qs)) i.parts_are in
      record {
        modules_are = i.modules_are;
        rows_stand =
            record {
              parts_are = i.parts_are;
              rows_are =
                  ap (λ (qs : List Part). map (row_of l) (heads_of qs)) i.parts_are
                  ∙ rows-by-number l standing.order.now count in-order counted
                  ∙ ap (λ (rs : List Row). map (λ (q : Row). Some q) (map (row_at rs) (gathered standing.order.now count))) (sym (laid-rows os r e a))
                  ∙ ap (map (λ (q : Row). Some q)) (sym rows_are)
                  ∙ map-map (λ (q : Row). Some q) placed_shown placed;
              none_too_large = laid-none os r e a;
            };
        names_are = i.names_are;
        groups_are = groups-are t tables;
      }

  pub stands-with : (os : List Ordered) (r : Laid) (t : Tables) (placed items rows : List Placed) (count : ℕ) (groups : List (Vec ℕ Global)) → os ≡ all_in l → laid.AreLaid def os r → AreTables def standing.segments standing.names members t → count ≡ length (heads_of standing.segments) →
      placed ≡ items → map placed_shown items ≡ map (row_at (map placed_shown rows)) (gathered standing.order.now count) → rows ≡ r.rows.items → groups ≡ t.groups.items → StandsSo l modules standing.segments placed standing.names (map (λ v. v.items) groups)
  stands-with os r t placed items rows count groups e a tables len placed_are rows_are same groups_are =
      subst (λ (gs : List (Vec ℕ Global)). StandsSo l modules standing.segments placed standing.names (map (λ v. v.items) gs)) (sym groups_are)
      (stands-so os r t placed count e a tables len
      (ap (map placed_shown) placed_are ∙ rows_are ∙ ap (λ (rs : List Placed). map (row_at (map placed_shown rs)) (gathered standing.order.now count)) same))
