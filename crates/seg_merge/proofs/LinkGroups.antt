-- The groups of logical segments, as the rules of linking see them.
use Rattle.std.specs.Prelude.{◌≡◌, ℕ, ◌<◌, Bool, false, List, [], map, length, get_or, bytes_eq, AllPairs, All}
use Rattle.std.proofs.Common.{ap, sym, subst, ◌∙◌, arith}
use Rattle.std.proofs.lemmas.List.{length-map, get_or-map}
use Rattle.link_model.specs.declared.keys.SegmentKey.{SegmentKey}
use Rattle.link_model.specs.Appearance.{firsts}
use Rattle.link_model.specs.Link.{Link}
use Rattle.link_model.specs.Groups.{group_names, in_group}
use Rattle.link_model.specs.Parts.{Part}
use Rattle.link_model.proofs.Tables.{firsts-apart}
use Rattle.seg_parts.specs.Members.{is_member, all_memberships}
use Rattle.seg_parts.proofs.GroupMembers.{groups_of_members}
use Rattle.seg_merge.specs.Membership.{AreGroupsOf}

apart : (all : List (List ℕ)) → AllPairs (λ a b. bytes_eq a b ≡ false) (firsts bytes_eq all)
apart all = firsts-apart bytes_eq all

pub names-apart : (l : Link) (names : List (List ℕ)) → group_names l ≡ names → AllPairs (λ a b. bytes_eq a b ≡ false) names
names-apart l names e = subst (λ (t : List (List ℕ)). AllPairs (λ a b. bytes_eq a b ≡ false) t) e (apart _)

pub in-link : (l : Link) (ms : List (List ℕ × SegmentKey)) (names : List (List ℕ)) (heads : List Part) (lists : List (List ℕ)) → all_memberships l ≡ ms → AreGroupsOf (is_member ms) names heads lists → AreGroupsOf (in_group l) names heads lists
in-link l ms names heads lists e g =
    record {
      one_each = g.one_each;
      below = λ k d lt. g.below k d lt;
      members = λ k j d n h lt under.
          g.members k j d n h lt under ∙ ap (λ (t : List (List ℕ × SegmentKey)). is_member t (get_or names j n) (get_or heads k h)) (sym e)
          ∙ sym (groups_of_members l (get_or names j n) (get_or heads k h));
    }

pub lists-below : {V : Type 0} (items : V → List ℕ) (vs : List V) (is_in : List ℕ → Part → Bool) (names : List (List ℕ)) (heads : List Part) → AreGroupsOf is_in names heads (map items vs) → All (λ v. All (λ g. g < length names) (items v)) vs
lists-below items vs is_in names heads g =
    λ i d lt. subst (λ (t : List ℕ). All (λ j. j < length names) t) (get_or-map items vs i d [] lt) (g.below i [] (omega (arith, lt, length-map vs items)))
