use Rattle.std.proofs.Common.{◌≡◌, ◌++◌, take}
use Rattle.std.specs.List.{flat_map}
use Rattle.omf_write.specs.ObjectBytes.{member_bytes}
use Rattle.omf_write.proofs.segments.push_members.Given as goal

abbrev pub invariant-loop-member : goal.invariant-loop-member
invariant-loop-member l = l.out.items ≡ l.fn.out.items ++ flat_map member_bytes (take l.member-index l.members)
