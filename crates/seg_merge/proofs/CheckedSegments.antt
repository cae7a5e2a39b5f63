-- What is checked of logical segments and groups is what the rules say of a link.
use Rattle.std.specs.Prelude.{◌≡◌, ℕ, ◌<◌, Bool, List, map, length}
use Rattle.std.specs.List.{All}
use Rattle.std.proofs.Common.{ap, sym, subst, ◌∙◌}
use Rattle.std.proofs.lemmas.List.{length-map}
use Rattle.obj_types.specs.declared.definition.DefFile.{DefFile}
use Rattle.link_model.specs.declared.keys.SegmentKey.{SegmentKey}
use Rattle.link_model.specs.Link.{Link}
use Rattle.link_model.specs.Groups.{group_names, in_group}
use Rattle.link_model.specs.Flags.{flags_of}
use Rattle.link_model.specs.Order.{segments}
use Rattle.link_model.specs.Parts.{Part}
use Rattle.seg_parts.specs.declared.parts.Part as lent
use Rattle.seg_parts.specs.Attributes.{flags_in}
use Rattle.seg_parts.specs.LogicalSegments.{heads_of}
use Rattle.seg_parts.specs.Members.{is_member}
use Rattle.seg_parts.specs.Parts.{shown}
use Rattle.seg_merge.specs.Membership.{AreGroupsOf}
use Rattle.seg_merge.specs.Refused.{AreOf}
use Rattle.seg_merge.proofs.LinkGroups.{in-link, lists-below}

-- The lists are as many as the first parts, and their places are those of groups.
pub lists-long : {V : Type 0} (items : V → List ℕ) (vs slice : List V) (is_in : List ℕ → Part → Bool) (names : List (List ℕ)) (heads : List Part) → slice ≡ vs → AreGroupsOf is_in names heads (map items vs) → length slice ≡ length heads
lists-long items vs slice is_in names heads same g = ap length same ∙ sym (length-map vs items) ∙ g.one_each

pub slice-below : {V : Type 0} (items : V → List ℕ) (vs slice : List V) (is_in : List ℕ → Part → Bool) (names : List (List ℕ)) (heads : List Part) → slice ≡ vs → AreGroupsOf is_in names heads (map items vs) → All (λ v. All (λ g. g < length names) (items v)) slice
slice-below {V} items vs slice is_in names heads same g =
    subst (λ (t : List V). All (λ v. All (λ g. g < length names) (items v)) t) (sym same) (lists-below items vs is_in names heads g)

module _ (l : Link) (def : DefFile) (ps : List Part) (names : List (List ℕ)) (members : List (List ℕ × SegmentKey)) (a : AreOf l def ps names members) where
  pub groups-are : (lists slice : List (List ℕ)) → slice ≡ lists → AreGroupsOf (is_member members) names (heads_of ps) lists → AreGroupsOf (in_group l) (group_names l) (heads_of ps) slice
  groups-are lists slice same g =
      subst (λ (t : List (List ℕ)). AreGroupsOf (in_group l) (group_names l) (heads_of ps) t) (sym same)
      (subst (λ (t : List (List ℕ)). AreGroupsOf (in_group l) t (heads_of ps) lists) (sym a.names_are) (in-link l members names (heads_of ps) lists a.members_are g))

  pub split-groups : (lists slice : List (List ℕ)) → slice ≡ lists → AreGroupsOf (is_member members) names (heads_of ps) lists → AreGroupsOf (in_group l) names (segments l) slice
  split-groups lists slice same g =
      subst (λ (t : List (List ℕ)). AreGroupsOf (in_group l) names (segments l) t) (sym same)
      (subst (λ (qs : List Part). AreGroupsOf (in_group l) names (heads_of qs) lists) (sym a.parts_are) (in-link l members names (heads_of ps) lists a.members_are g))

  pub flags-are : (heads : List lent.Part) (flags slice : List ℕ) → slice ≡ flags → flags ≡ map (flags_in def) (map shown heads) → map shown heads ≡ heads_of ps → slice ≡ map (flags_of l) (segments l)
  flags-are heads flags slice same are hs =
      same ∙ are ∙ ap (map (flags_in def)) hs ∙ ap (λ (d : DefFile). map (flags_in d) (heads_of ps)) (sym a.def_is) ∙ ap (λ (qs : List Part). map (flags_in l.def) (heads_of qs)) (sym a.parts_are)
