-- The steps of a layout, for the lists of a link.
use Rattle.std.specs.Prelude.{◌≡◌, ℕ, List, [], true, Some, map, slice_get, if◌then◌else◌}
use Rattle.std.specs.List.{concat, enumerate_from}
use Rattle.link_model.specs.Link.{Link}
use Rattle.link_model.specs.Parts.{Part, contributions}
use Rattle.link_model.specs.Communals.{parts, near_wide, far_wide, communals}
use Rattle.link_model.specs.Symbols.{commons}
use Rattle.link_model.specs.Flags.{flags_of}
use Rattle.link_model.specs.Order as order
use Rattle.link_model.specs.Rows.{rows, least_len}
use Rattle.link_model.specs.LayoutRefusals.{absolute, too_large, too_large_in}
use Rattle.seg_parts.specs.LogicalSegments.{heads_of}
use Rattle.seg_parts.specs.Communals.{communal_of, followed, far_followed, is_in}
use Rattle.seg_parts.specs.Members.{is_member, all_memberships}
use Rattle.seg_parts.specs.declared.logical_segments.SegmentName.{SegmentName}
use Rattle.link_model.specs.Groups.{DGROUP, in_group, has_near, is_near_bss}
use Rattle.seg_parts.specs.Attributes.{flags_in}
use Rattle.seg_parts.specs.Order.{by_class_of, gathered, class_numbers, class_count}
use Rattle.seg_parts.specs.Refusals.{absolute_in}
use Rattle.seg_parts.specs.Rows.{Unplaced, rows_later}

-- A logical segment of a link before it has a place.
abbrev pub unplaced_in : Link → Part → Unplaced
unplaced_in l s =
    record { head = s; object = order.object_number l s; parts = order.parts_of l s; least = least_len l s }

pub record StepsOf (l : Link) : Type 0 where
  pub communals_are : communals l ≡ map (λ q. communal_of (near_wide l) (far_wide l) q.0 q.1.1) (enumerate_from 0 (commons l))
  pub segments_are : order.segments l ≡ heads_of (parts l)
  pub by_class_is : order.by_class l ≡ by_class_of (order.segments l)
  pub flags_are : (p : Part) → flags_of l p ≡ flags_in l.def p
  pub rows_are : rows l ≡ rows_later [] (map (unplaced_in l) (order.ordered l))
  pub absolute_is : absolute l ≡ absolute_in (contributions l)
  pub too_large_is : too_large l ≡ too_large_in (rows l)

abbrev pub StepsOfLinks : Type 0
StepsOfLinks = (l : Link) → StepsOf l

-- The numbers of these logical segments by class give them class by class.
abbrev pub ClassesInOrder : Type 0
ClassesInOrder =
    (ss : List Part) → map (slice_get ss) (concat (gathered (class_numbers ss) (class_count ss))) ≡ map (λ s. Some s) (by_class_of ss)

-- A part is in a group where its logical segment is a member of it.
abbrev pub GroupsHaveMembers : Type 0
GroupsHaveMembers = (l : Link) (g : List ℕ) (p : Part) → in_group l g p ≡ is_member (all_memberships l) g p

-- Where the logical segments of DGROUP are known, so is whether communals are use32.
pub record WidthsOf (l : Link) (names : List SegmentName) : Type 0 where
  pub near : followed names is_near_bss (contributions l) true ≡ near_wide l
  pub far : far_followed names (contributions l) (if has_near l then near_wide l else true) ≡ far_wide l

abbrev pub CommunalsFollow : Type 0
CommunalsFollow =
    (l : Link) (names : List SegmentName) → ((p : Part) → is_in names p ≡ is_member (all_memberships l) DGROUP p) → WidthsOf l names
