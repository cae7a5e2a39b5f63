-- A part is in a group where its logical segment is a member.
use Rattle.std.specs.Prelude.{◌≡◌, ℕ, Bool, true, false, cond, not, ◌&&◌, ◌||◌, List, [], ◌∷◌, Option, Some, None, filter, find, bytes_eq, codes, refl}
use Rattle.std.specs.List.{list_any, flat_map, filter_map, enumerate_from, cons_option}
use Rattle.std.specs.Option.{option_map, option_map_or}
use Rattle.std.specs.Cmp.Lexicographic.{nat_list_eq_equiv}
use Rattle.std.proofs.Common.{ap, sym, ◌∙◌}
use Rattle.std.proofs.lemmas.List.Folds.{list_any-append}
use Rattle.lx_types.proofs.Lists.{any_flat_map, any_agree, find_agree}
use Rattle.obj_types.specs.declared.object.Group.{Group}
use Rattle.obj_types.specs.declared.object.ObjModule.{ObjModule}
use Rattle.link_model.specs.declared.keys.Origin.TheVariants.{Segment}
use Rattle.link_model.specs.declared.keys.SegmentKey.{SegmentKey}
use Rattle.link_model.specs.declared.keys.SegmentKey.TheVariants.{Private, Public, Common}
use Rattle.link_model.specs.Link.{Link}
use Rattle.link_model.specs.Parts.{Part, same_origin, segment_key, same_segment, joins, is_private, is_common, contributions_in, contributions}
use Rattle.link_model.specs.Groups.{DGROUP, group_names, members_in, is_listed, in_group, has_near, is_near_bss, is_far_bss}
use Rattle.link_model.specs.Communals.{near_wide}
use Rattle.seg_parts.specs.Communals.{is_in, is_other}
use Rattle.seg_parts.specs.Members.{listed_by, listed_in, memberships, near_members, is_member}
use Rattle.seg_parts.specs.Steps.{GroupsHaveMembers, CommunalsFollow}

-- ---- one group of a module

both : (a b c : Bool) → ((a && b) || (a && c)) ≡ (a && (b || c))
both true b c = refl
both false b c = refl

none_of : (a : Bool) → false ≡ (a && false)
none_of true = refl
none_of false = refl

one_member : (g name : List ℕ) (p : Part) (o : Option Part) (rest : List (List ℕ × SegmentKey)) (others : List Part) →
    is_member rest g p ≡ (bytes_eq name g && list_any (λ q. joins p q) others) →
    is_member (cons_option (option_map (λ k. (name, k)) (option_map segment_key o)) rest) g p ≡ (bytes_eq name g && list_any (λ q. joins p q) (cons_option o others))
one_member g name p None rest others e = e
one_member g name p (Some q) rest others e =
    ap (λ (b : Bool). (bytes_eq name g && same_segment (segment_key p) (segment_key q)) || b) e
    ∙ both (bytes_eq name g) (joins p q) (list_any (λ t. joins p t) others)

of_indices : (n : ℕ) (m : ObjModule) (g name : List ℕ) (p : Part) (is : List ℕ) →
    is_member (filter_map (λ index. option_map (λ k. (name, k)) (option_map segment_key (find (λ q. same_origin (Segment n index) q.origin) (contributions_in n m)))) is) g p
    ≡ (bytes_eq name g && list_any (λ q. joins p q) (filter_map (λ index. find (λ q. same_origin (Segment n index) q.origin) (contributions_in n m)) is))
of_indices n m g name p [] = none_of (bytes_eq name g)
of_indices n m g name p (i ∷ is) =
    one_member g name p (find (λ q. same_origin (Segment n i) q.origin) (contributions_in n m))
    (filter_map (λ index. option_map (λ k. (name, k)) (option_map segment_key (find (λ q. same_origin (Segment n index) q.origin) (contributions_in n m)))) is)
    (filter_map (λ index. find (λ q. same_origin (Segment n index) q.origin) (contributions_in n m)) is) (of_indices n m g name p is)

-- ---- all groups

group_by : (n : ℕ) (m : ObjModule) (p : Part) (h : Group) (hs : List Group) (b : Bool) →
    list_any (λ q. joins p q) (flat_map (members_in n m) (cond b (h ∷ hs) hs)) ≡ ((b && list_any (λ q. joins p q) (members_in n m h)) || list_any (λ q. joins p q) (flat_map (members_in n m) hs))
group_by n m p h hs true = list_any-append (λ q. joins p q) (members_in n m h) (flat_map (members_in n m) hs)
group_by n m p h hs false = refl

of_groups : (n : ℕ) (m : ObjModule) (g : List ℕ) (p : Part) (hs : List Group) →
    list_any (λ q. joins p q) (flat_map (members_in n m) (filter (λ h. bytes_eq h.name g) hs)) ≡ is_member (flat_map (listed_by n m) hs) g p
of_groups n m g p [] = refl
of_groups n m g p (h ∷ hs) =
    group_by n m p h (filter (λ k. bytes_eq k.name g) hs) (bytes_eq h.name g)
    ∙ ap (λ (b : Bool). b || list_any (λ q. joins p q) (flat_map (members_in n m) (filter (λ k. bytes_eq k.name g) hs))) (sym (of_indices n m g h.name p h.members))
    ∙ ap (λ (b : Bool). is_member (listed_by n m h) g p || b) (of_groups n m g p hs)
    ∙ sym (list_any-append (λ q. bytes_eq q.0 g && same_segment (segment_key p) q.1) (listed_by n m h) (flat_map (listed_by n m) hs))

listed_is : (l : Link) (g : List ℕ) (p : Part) → is_listed l g p ≡ is_member (memberships l) g p
listed_is l g p =
    any_flat_map (λ q. joins p q) (λ (t : ℕ × ObjModule). flat_map (members_in t.0 t.1) (filter (λ h. bytes_eq h.name g) t.1.groups)) (enumerate_from 1 l.modules)
    ∙ any_agree (λ (t : ℕ × ObjModule). list_any (λ q. joins p q) (flat_map (members_in t.0 t.1) (filter (λ h. bytes_eq h.name g) t.1.groups))) (λ t. is_member (listed_in t.0 t.1) g p)
    (λ t. of_groups t.0 t.1 g p t.1.groups) (enumerate_from 1 l.modules)
    ∙ sym (any_flat_map (λ (q : List ℕ × SegmentKey). bytes_eq q.0 g && same_segment (segment_key p) q.1) (λ (t : ℕ × ObjModule). listed_in t.0 t.1) (enumerate_from 1 l.modules))

-- ---- the near communals

near_by : (p : Part) (name class : List ℕ) (private common : Bool) →
    same_segment (cond private (Private p.origin) (cond common (Common p.name p.class) (Public p.name p.class))) (Public name class) ≡ (not (private || common) && (bytes_eq p.name name && bytes_eq p.class class))
near_by p name class true common = refl
near_by p name class false true = refl
near_by p name class false false = refl

near_is : (p : Part) → same_segment (segment_key p) (Public (codes "c_common") (codes "BSS")) ≡ is_near_bss p
near_is p = near_by p (codes "c_common") (codes "BSS") (is_private p) (is_common p)

near_case : (g : List ℕ) (p : Part) (named declared near is : Bool) → bytes_eq DGROUP g ≡ named → same_segment (segment_key p) (Public (codes "c_common") (codes "BSS")) ≡ is →
    is_member (cond (near && declared) ((DGROUP, Public (codes "c_common") (codes "BSS")) ∷ []) []) g p ≡ (named && declared && (is && near))
near_case g p true true true true e f = ap (λ (b : Bool). (b && same_segment (segment_key p) (Public (codes "c_common") (codes "BSS"))) || false) e ∙ ap (λ (b : Bool). b || false) f
near_case g p true true true false e f = ap (λ (b : Bool). (b && same_segment (segment_key p) (Public (codes "c_common") (codes "BSS"))) || false) e ∙ ap (λ (b : Bool). b || false) f
near_case g p false true true is e f = ap (λ (b : Bool). (b && same_segment (segment_key p) (Public (codes "c_common") (codes "BSS"))) || false) e
near_case g p true true false true e f = refl
near_case g p true true false false e f = refl
near_case g p true false true is e f = refl
near_case g p true false false is e f = refl
near_case g p false true false is e f = refl
near_case g p false false true is e f = refl
near_case g p false false false is e f = refl

pub groups_of_members : GroupsHaveMembers
groups_of_members l g p =
    let declared : Bool = list_any (bytes_eq DGROUP) (group_names l) in
    ap (λ (b : Bool). b || (bytes_eq g DGROUP && declared && (is_near_bss p && has_near l))) (listed_is l g p)
    ∙ ap (λ (b : Bool). is_member (memberships l) g p || b)
    (sym (near_case g p (bytes_eq g DGROUP) declared (has_near l) (is_near_bss p) (nat_list_eq_equiv.symm DGROUP g) (near_is p)))
    ∙ sym (list_any-append (λ q. bytes_eq q.0 g && same_segment (segment_key p) q.1) (memberships l) (near_members (group_names l) (has_near l)))

-- ---- what communals follow

pub communals_of_members : CommunalsFollow
communals_of_members l names says =
    let same : (p : Part) → is_in names p ≡ in_group l DGROUP p = λ p. says p ∙ sym (groups_of_members l DGROUP p) in
    let followed_is : (own : Part → Bool) → find (is_other names own) (contributions l) ≡ find (λ p. in_group l DGROUP p && not (own p)) (contributions l) =
    λ own. find_agree (is_other names own) (λ p. in_group l DGROUP p && not (own p)) (λ p. ap (λ (b : Bool). b && not (own p)) (same p)) (contributions l) in
    let otherwise : Bool = cond (has_near l) (near_wide l) true in
    record {
      near = ap (λ (o : Option Part). option_map_or (λ p. p.wide) o true) (followed_is is_near_bss);
      far =
          ap (λ (b : Bool). cond b (option_map_or (λ p. p.wide) (find (is_other names is_far_bss) (contributions l)) otherwise) true)
          (any_agree (λ p. is_far_bss p && is_in names p) (λ p. is_far_bss p && in_group l DGROUP p) (λ p. ap (λ (b : Bool). is_far_bss p && b) (same p)) (contributions l))
          ∙ ap (λ (o : Option Part). cond (list_any (λ p. is_far_bss p && in_group l DGROUP p) (contributions l)) (option_map_or (λ p. p.wide) o otherwise) true) (followed_is is_far_bss);
    }
