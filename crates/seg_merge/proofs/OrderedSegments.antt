-- The logical segments of a link by their numbers.
use Rattle.std.specs.Prelude.{◌≡◌, ℕ, ◌==◌, List, [], Option, Some, map, filter, length, get_or, slice_get, if◌then◌else◌}
use Rattle.std.specs.List.{find, position_or_len, range_with_len}
use Rattle.std.specs.Option.{option_map_or}
use Rattle.std.proofs.Common.{ap, sym, ◌∙◌, arith}
use Rattle.std.proofs.lemmas.List.FromFn.{get_or-map-range_with_len}
use Rattle.std.proofs.lemmas.Bool.{eqb-true}
use Rattle.std.proofs.lemmas.Option.{get_or_from_slice_get, slice_get_within}
use Rattle.link_model.specs.declared.keys.ObjectKey.{ObjectKey}
use Rattle.link_model.specs.declared.keys.ObjectKey.TheVariants.{Group, Wide, Narrow}
use Rattle.link_model.specs.Link.{Link}
use Rattle.link_model.specs.Groups.{group_names, in_group}
use Rattle.link_model.specs.Parts.{Part, joins, segment_key}
use Rattle.link_model.specs.Flags.{flags_of}
use Rattle.link_model.specs.Order.{object_key, parts_of, own_stack}
use Rattle.link_model.proofs.KeyTests.{joining}
use Rattle.link_model.proofs.Tables.{firsts-apart}
use Rattle.seg_parts.specs.LogicalSegments.{heads_of}
use Rattle.seg_parts.proofs.ClassOrder.{place-is}
use Rattle.seg_merge.specs.Membership.{AreGroupsOf}
use Rattle.seg_merge.specs.Ordered.{Ordered, all_parts, ordered_in, ordered_at, key_at, first_group}
use Rattle.seg_merge.proofs.Gets.{mapped-get}
use Rattle.seg_merge.proofs.FirstGroups.{first-group-is}

-- A first part joins only itself.
pub number-is : (ps : List Part) (k : ℕ) (s t : Part) → slice_get (heads_of ps) k ≡ Some t → position_or_len (joins s) (heads_of ps) == k ≡ joins s t
number-is ps k s t e =
    place-is joins joining s (heads_of ps) k s (firsts-apart joins ps) (slice_get_within (heads_of ps) k t e) ∙ ap (joins s) (get_or_from_slice_get (heads_of ps) k t s e)

pub own-number : (ps : List Part) (k : ℕ) (s : Part) → slice_get (heads_of ps) k ≡ Some s → position_or_len (joins s) (heads_of ps) ≡ k
own-number ps k s e = eqb-true (position_or_len (joins s) (heads_of ps)) k (number-is ps k s s e ∙ joining.refl s)

abbrev made : ℕ → Part → ObjectKey → ℕ → List Part → Ordered
made n h k f ps = record { number = n; head = h; key = k; flags = f; parts = ps }

abbrev key_by : Option (List ℕ) → Part → ℕ → ObjectKey
key_by g h f = option_map_or (λ n. Group n) g (if h.wide then Wide f else Narrow (segment_key h))

-- The object of a first part.
key_is : (l : Link) (flags : List ℕ) (names : List (List ℕ)) (groups : List (List ℕ)) → flags ≡ map (flags_of l) (heads_of (all_parts l)) → names ≡ group_names l → AreGroupsOf (in_group l) names (heads_of (all_parts l)) groups →
    (k : ℕ) (s : Part) → slice_get (heads_of (all_parts l)) k ≡ Some s → key_at (heads_of (all_parts l)) flags names groups k ≡ object_key l s
key_is l flags names groups flags_are names_are groups_are k s e =
    let heads : List Part = heads_of (all_parts l) in
    let h : Part = get_or heads k own_stack in
    let f : ℕ = get_or flags k 0 in
    let g : Option (List ℕ) = first_group names (get_or groups k []) in
    let head : h ≡ s = get_or_from_slice_get heads k s own_stack e in
    let flag : f ≡ flags_of l s = ap (λ (t : List ℕ). get_or t k 0) flags_are ∙ mapped-get (flags_of l) heads k s 0 e in
    let group : g ≡ find (λ n. in_group l n s) (group_names l) = first-group-is (in_group l) names heads groups groups_are k s e ∙ ap (λ (t : List (List ℕ)). find (λ n. in_group l n s) t) names_are in
    ap (λ (t : Option (List ℕ)). key_by t h f) group ∙ ap (λ (t : Part). key_by (find (λ n. in_group l n s) (group_names l)) t f) head ∙ ap (key_by (find (λ n. in_group l n s) (group_names l)) s) flag

pub ordered-at-is : (l : Link) (hs : List Part) (keys : List ObjectKey) (flags : List ℕ) (lists : List (List Part)) (names : List (List ℕ)) (groups : List (List ℕ)) → hs ≡ heads_of (all_parts l) →
    keys ≡ map (key_at (heads_of (all_parts l)) flags names groups) (range_with_len 0 (length (heads_of (all_parts l)))) → flags ≡ map (flags_of l) (heads_of (all_parts l)) →
    lists ≡ map (λ s. filter (joins s) (all_parts l)) (heads_of (all_parts l)) → names ≡ group_names l → AreGroupsOf (in_group l) names (heads_of (all_parts l)) groups →
    (k : ℕ) (s : Part) → slice_get (heads_of (all_parts l)) k ≡ Some s → ordered_at hs keys flags lists k ≡ ordered_in l s
ordered-at-is l hs keys flags lists names groups hs_are keys_are flags_are lists_are names_are groups_are k s e =
    let heads : List Part = heads_of (all_parts l) in
    let h : Part = get_or hs k own_stack in
    let j : ObjectKey = get_or keys k (Wide 0) in
    let f : ℕ = get_or flags k 0 in
    let ps : List Part = get_or lists k [] in
    let head : h ≡ s = ap (λ (t : List Part). get_or t k own_stack) hs_are ∙ get_or_from_slice_get heads k s own_stack e in
    let flag : f ≡ flags_of l s = ap (λ (t : List ℕ). get_or t k 0) flags_are ∙ mapped-get (flags_of l) heads k s 0 e in
    let own : ps ≡ parts_of l s = ap (λ (t : List (List Part)). get_or t k []) lists_are ∙ mapped-get (λ t. filter (joins t) (all_parts l)) heads k s [] e in
    let key : j ≡ object_key l s = ap (λ (t : List ObjectKey). get_or t k (Wide 0)) keys_are ∙ get_or-map-range_with_len (key_at heads flags names groups) 0 (length heads) k k (Wide 0) (slice_get_within heads k s e) (omega arith)
    ∙ key_is l flags names groups flags_are names_are groups_are k s e in
    ap (λ (n : ℕ). made n h j f ps) (sym (own-number (all_parts l) k s e))
    ∙ ap (λ (t : Part). made (position_or_len (joins s) heads) t j f ps) head
    ∙ ap (λ (t : ObjectKey). made (position_or_len (joins s) heads) s t f ps) key
    ∙ ap (λ (n : ℕ). made (position_or_len (joins s) heads) s (object_key l s) n ps) flag
    ∙ ap (λ (t : List Part). made (position_or_len (joins s) heads) s (object_key l s) (flags_of l s) t) own
