-- Groups.
--
-- A group is joined by name over all chosen modules, and one contribution that a group lists puts its whole
-- logical segment into it. The group FLAT is all of memory and has no members.
use Rattle.std.specs.Prelude.{ℕ, Bool, not, ◌&&◌, ◌||◌, List, map, bytes_eq, filter, codes}
use Rattle.std.specs.List.{find, filter_map, flat_map, list_any}
use Rattle.obj_types.specs.declared.object.Group.{Group}
use Rattle.obj_types.specs.declared.object.ObjModule.{ObjModule}
use Rattle.link_model.specs.Appearance.{firsts}
use Rattle.link_model.specs.Link.{Link, of_modules}
use Rattle.link_model.specs.Symbols.{commons}
use Rattle.link_model.specs.Parts.{Segment, same_origin, Part, is_joint, joins, contributions_in}

abbrev pub FLAT : List ℕ
FLAT = codes "FLAT"

abbrev pub DGROUP : List ℕ
DGROUP = codes "DGROUP"

-- The groups other than FLAT, by first appearance.
abbrev pub group_names : Link → List (List ℕ)
group_names l =
    firsts bytes_eq (filter (λ g. not (bytes_eq g FLAT)) (flat_map (λ m. map (λ g. g.name) m.groups) l.modules))

-- The contributions that a group lists, in any chosen module.
abbrev pub members_in : ℕ → ObjModule → Group → List Part
members_in n m h =
    filter_map (λ index. find (λ p. same_origin (Segment n index) p.origin) (contributions_in n m)) h.members

abbrev pub members : Link → List ℕ → List Part
members l g = of_modules l (λ n m. flat_map (members_in n m) (filter (λ h. bytes_eq h.name g) m.groups))

-- A group lists a contribution of the part's logical segment.
abbrev pub is_listed : Link → List ℕ → Part → Bool
is_listed l g p = list_any (λ q. joins p q) (members l g)

-- The logical segment of the near communals, and that of the far ones.
abbrev pub is_near_bss : Part → Bool
is_near_bss p = is_joint p && (bytes_eq p.name (codes "c_common") && bytes_eq p.class (codes "BSS"))

abbrev pub is_far_bss : Part → Bool
is_far_bss p = is_joint p && (bytes_eq p.name (codes "FAR_BSS") && bytes_eq p.class (codes "FAR_BSS"))

abbrev pub has_near : Link → Bool
has_near l = list_any (λ c. not c.1.far) (commons l)

-- A part is in a group where the group lists its logical segment. The segment of the near communals is in
-- DGROUP too, where a chosen module declares one.
abbrev pub in_group : Link → List ℕ → Part → Bool
in_group l g p =
    is_listed l g p || (bytes_eq g DGROUP && list_any (bytes_eq DGROUP) (group_names l) && (is_near_bss p && has_near l))

-- The groups of a part's logical segment.
abbrev pub groups_of : Link → Part → List (List ℕ)
groups_of l p = filter (λ g. in_group l g p) (group_names l)

abbrev pub share_group : Link → Part → Part → Bool
share_group l a b = list_any (λ g. in_group l g b) (groups_of l a)
