use Rattle.std.proofs.Common.{◌≡◌, map, take}
use Rattle.link_model.specs.Groups.{DGROUP}
use Rattle.link_model.specs.Parts.{Part}
use Rattle.seg_parts.specs.Communals.{is_in}
use Rattle.seg_parts.specs.Members.{member_shown, is_member}
use Rattle.seg_parts.proofs.members.dgroup_of.Given as goal

abbrev pub invariant-loop-member : goal.invariant-loop-member
invariant-loop-member l = (p : Part) → is_in l.names.keys p ≡ is_member (map member_shown (take l.member-index l.members)) DGROUP p
