-- The logical segments of a link by their numbers, in the order in which they stand.
use Rattle.std.specs.Prelude.{◌≡◌, ℕ, List, Some, map, filter, length, slice_get}
use Rattle.std.specs.List.{range_with_len}
use Rattle.obj_types.specs.declared.definition.DefFile.{DefFile}
use Rattle.obj_types.specs.declared.object.ObjModule.{ObjModule}
use Rattle.link_model.specs.declared.keys.SegmentKey.{SegmentKey}
use Rattle.link_model.specs.Link.{Link}
use Rattle.link_model.specs.Groups.{group_names}
use Rattle.link_model.specs.Parts.{Part, joins}
use Rattle.link_model.specs.Order.{ordered}
use Rattle.seg_parts.specs.Attributes.{flags_in}
use Rattle.seg_parts.specs.LogicalSegments.{heads_of}
use Rattle.seg_parts.specs.Members.{is_member, all_memberships}
use Rattle.seg_parts.specs.Objects.{object_shown}
use Rattle.seg_parts.specs.Parts.{shown}
use Rattle.seg_merge.specs.Membership.{AreGroupsOf}
use Rattle.seg_merge.specs.Ordered.{all_parts, key_at}
use Rattle.seg_merge.specs.declared.in_order.StandingSegments.{StandingSegments}
use Rattle.seg_merge.specs.declared.ordered.Tables.{Tables}

-- What is known of each logical segment of these parts.
pub record AreTables (def : DefFile) (ps : List Part) (names : List (List ℕ)) (members : List (List ℕ × SegmentKey)) (t : Tables) : Type 0 where
  pub groups_are : AreGroupsOf (is_member members) names (heads_of ps) (map (λ v. v.items) t.groups.items)
  pub heads_are : map shown t.heads.items ≡ heads_of ps
  pub flags_are : t.flags.items ≡ map (flags_in def) (heads_of ps)
  pub objects_are : map object_shown t.objects.items
      ≡ map (key_at (heads_of ps) t.flags.items names (map (λ v. v.items) t.groups.items)) (range_with_len 0 (length (heads_of ps)))
  pub parts_are : map (λ v. map shown v.items) t.parts.items ≡ map (λ s. filter (joins s) ps) (heads_of ps)

-- These are the modules, the definition file, all parts, the names of groups and what is in groups of a link, and the
-- numbers of its logical segments in the order in which they stand.
pub record InOrder (l : Link) (modules : List ObjModule) (def : DefFile) (standing : StandingSegments) (members : List (List ℕ × SegmentKey)) : Type 0 where
  pub modules_are : modules ≡ l.modules
  pub def_is : def ≡ l.def
  pub parts_are : standing.segments ≡ all_parts l
  pub names_are : standing.names ≡ group_names l
  pub members_are : members ≡ all_memberships l
  pub order_is : map (slice_get (heads_of standing.segments)) standing.order.now ≡ map (λ s. Some s) (ordered l)

-- The same, with what is known of each logical segment.
pub record TablesStand (l : Link) (modules : List ObjModule) (def : DefFile) (standing : StandingSegments) (t : Tables) : Type 0 where
  pub members : List (List ℕ × SegmentKey)
  pub in_order : InOrder l modules def standing members
  pub tables : AreTables def standing.segments standing.names members t
