use Rattle.std.proofs.Common.{◌∙◌, ◌+◌, length, ap, sym, subst, map, take, arith, List}
use Rattle.std.proofs.lemmas.List.{length-map}
use Rattle.seg_parts.specs.LogicalSegments.{heads_of}
use Rattle.seg_parts.specs.Members.{member_shown, is_member}
use Rattle.seg_parts.specs.Parts.{shown}
use Rattle.seg_merge.specs.Membership.{AreGroupsOf}
use Rattle.seg_merge.proofs.GroupPlaces.{none-yet, some-step, none-step, step-below}
use Rattle.seg_merge.proofs.membership.membership_of.Goals as goal
use Rattle.seg_merge.proofs.membership.membership_of.Goals.{in-Some+in_ok-push, in_default}

pub loop-member-init : goal.loop-member-init
loop-member-init c =
    none-yet c.args.names.now (heads_of c.args.segments.now) _ _
    (sym (length-map c.heads.result.now shown) ∙ ap length c.heads.ensures) c.in_ok-lists.ensures

pub index_mut-requires : goal.index_mut-requires
index_mut-requires c =
    let below = step-below (λ v. v.items) c.args.members.now c.loop-member.member-index _ c.args.names.now c.args.segments.now c.loop-member.lists.items c.in-Some.group c.in-Some.segment
    c.requires.apart (sym c.in-Some.ensures) c.loop-member.invariant in
    omega (arith, below, c.loop-member.lists.ok)

pub loop-member-preserved : goal.loop-member-preserved
loop-member-preserved c = elim c.match-places_of.branch [
  | in-Some+in_ok-push w ↦
      subst (λ (t : List _). AreGroupsOf (is_member (map member_shown (take (c.loop-member.member-index + 1) c.args.members.now))) c.args.names.now (heads_of c.args.segments.now) (map (λ v. v.items) t)) (sym (ap (λ v. v.items) w.lists-is))
      (some-step (λ v. v.items) c.args.members.now c.loop-member.member-index _ c.loop-member-test.true c.args.names.now c.args.segments.now c.loop-member.lists.items w.in-Some.group w.in-Some.segment w.index_mut.result.now w.push.new.self
      c.requires.apart (sym w.in-Some.ensures) c.loop-member.invariant w.index_mut.ensures.value w.in_ok-push.ensures.items)
  | in_default w ↦
      subst (λ (t : List _). AreGroupsOf (is_member (map member_shown (take (c.loop-member.member-index + 1) c.args.members.now))) c.args.names.now (heads_of c.args.segments.now) (map (λ v. v.items) t)) (sym (ap (λ v. v.items) w.lists-is))
      (none-step c.args.members.now c.loop-member.member-index _ c.loop-member-test.true c.args.names.now c.args.segments.now (map (λ v. v.items) c.loop-member.lists.items) (sym c.places_of.ensures ∙ w.in_default.is) c.loop-member.invariant)
]
