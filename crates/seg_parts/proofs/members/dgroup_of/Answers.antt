use Rattle.std.proofs.Common.{◌≡◌, ◌∙◌, ap, sym, subst, map, take, List}
use Rattle.std.proofs.Common.{◌+◌}
use Rattle.link_model.specs.Groups.{DGROUP}
use Rattle.link_model.specs.Parts.{Part}
use Rattle.seg_parts.specs.declared.logical_segments.SegmentName.{SegmentName}
use Rattle.seg_parts.specs.Communals.{is_in}
use Rattle.seg_parts.specs.Members.{member_shown, is_member}
use Rattle.seg_parts.proofs.DgroupNames.{dgroup-in, dgroup-out}
use Rattle.seg_parts.proofs.members.dgroup_of.Goals as goal
use Rattle.seg_parts.proofs.members.dgroup_of.Goals.{then-is_of_dgroup+in_ok-insert_full, else-is_of_dgroup}

pub loop-member-preserved : goal.loop-member-preserved
loop-member-preserved c = elim c.if-is_of_dgroup.branch [
  | then-is_of_dgroup+in_ok-insert_full w ↦
      dgroup-in c.args.members.now c.loop-member.member-index _ c.loop-member-test.true c.loop-member.names.keys c.if-is_of_dgroup.names.keys
      (sym c.is_of_dgroup.ensures ∙ w.if-is_of_dgroup.true) (ap (λ s. s.keys) w.names-is ∙ w.in_ok-insert_full.ensures.keys) c.loop-member.invariant
  | else-is_of_dgroup w ↦
      subst (λ (ks : List SegmentName). (p : Part) → is_in ks p ≡ is_member (map member_shown (take (c.loop-member.member-index + 1) c.args.members.now)) DGROUP p) (sym (ap (λ s. s.keys) w.names-is))
      (dgroup-out c.args.members.now c.loop-member.member-index _ c.loop-member-test.true c.loop-member.names.keys (sym c.is_of_dgroup.ensures ∙ w.if-is_of_dgroup.false) c.loop-member.invariant)
]
