use Rattle.std.proofs.Common.{map, take}
use Rattle.seg_parts.specs.LogicalSegments.{heads_of}
use Rattle.seg_parts.specs.Members.{member_shown, is_member}
use Rattle.seg_merge.specs.Membership.{AreGroupsOf}
use Rattle.seg_merge.proofs.membership.membership_of.Given as goal

abbrev pub invariant-loop-member : goal.invariant-loop-member
invariant-loop-member l = AreGroupsOf (is_member (map member_shown (take l.member-index l.members))) l.names (heads_of l.segments) (map (λ v. v.items) l.lists.items)
