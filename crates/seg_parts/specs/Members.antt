-- What groups list, by the keys of logical segments.
use Rattle.std.specs.Prelude.{ℕ, Bool, ◌&&◌, List, [], ◌∷◌, ◌++◌, Option, bytes_eq, codes, if◌then◌else◌}
use Rattle.std.specs.List.{find, filter_map, flat_map, list_any}
use Rattle.std.specs.Option.{option_map}
use Rattle.obj_types.specs.declared.object.Group.{Group}
use Rattle.obj_types.specs.declared.object.ObjModule.{ObjModule}
use Rattle.link_model.specs.declared.keys.Origin.TheVariants.{Segment}
use Rattle.link_model.specs.declared.keys.SegmentKey.{SegmentKey}
use Rattle.link_model.specs.declared.keys.SegmentKey.TheVariants.{Public}
use Rattle.link_model.specs.Groups.{DGROUP, group_names, has_near}
use Rattle.link_model.specs.Link.{Link, of_modules}
use Rattle.link_model.specs.Parts.{Part, same_origin, segment_key, same_segment, contributions_in}
use Rattle.seg_parts.specs.declared.members.Member.{Member}
use Rattle.seg_parts.specs.LogicalSegments.{name_shown}

abbrev pub member_shown : Member → List ℕ × SegmentKey
member_shown m = (m.group.now, name_shown m.segment)

-- The logical segment of a contribution.
abbrev pub segment_at : ℕ → ObjModule → ℕ → Option SegmentKey
segment_at n m index =
    option_map segment_key (find (λ p. same_origin (Segment n index) p.origin) (contributions_in n m))

-- A group's name with the logical segment of one contribution that it lists, with those of all, and those of all groups
-- of a module and of a link.
abbrev pub listed_at : ℕ → ObjModule → Group → ℕ → Option (List ℕ × SegmentKey)
listed_at n m h index = option_map (λ k. (h.name, k)) (segment_at n m index)

abbrev pub listed_by : ℕ → ObjModule → Group → List (List ℕ × SegmentKey)
listed_by n m h = filter_map (listed_at n m h) h.members

abbrev pub listed_in : ℕ → ObjModule → List (List ℕ × SegmentKey)
listed_in n m = flat_map (listed_by n m) m.groups

abbrev pub memberships : Link → List (List ℕ × SegmentKey)
memberships l = of_modules l listed_in

-- The logical segment of the near communals, as a member of DGROUP where that is one of these groups.
abbrev pub near_members : List (List ℕ) → Bool → List (List ℕ × SegmentKey)
near_members groups near =
    if near && list_any (bytes_eq DGROUP) groups then (DGROUP, Public (codes "c_common") (codes "BSS")) ∷ [] else []

-- The part's logical segment is a member of the group.
abbrev pub is_member : List (List ℕ × SegmentKey) → List ℕ → Part → Bool
is_member ms g p = list_any (λ q. bytes_eq q.0 g && same_segment (segment_key p) q.1) ms

-- All that is in the groups of a link.
abbrev pub all_memberships : Link → List (List ℕ × SegmentKey)
all_memberships l = memberships l ++ near_members (group_names l) (has_near l)
