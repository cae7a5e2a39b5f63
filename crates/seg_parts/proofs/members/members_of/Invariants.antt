use Rattle.std.proofs.Common.{◌≡◌, map, take}
use Rattle.link_types.specs.Links.{link_with}
use Rattle.seg_parts.specs.Members.{member_shown, memberships}
use Rattle.seg_parts.proofs.members.members_of.Given as goal

abbrev pub invariant-loop-place : goal.invariant-loop-place
invariant-loop-place l = map member_shown l.found.items ≡ memberships (link_with l.input (take l.place l.modules))
