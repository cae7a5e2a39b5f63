use Rattle.std.proofs.Common.{◌≡◌, ◌++◌, map, take}
use Rattle.std.specs.List.{flat_map}
use Rattle.seg_parts.specs.Members.{member_shown, listed_by}
use Rattle.seg_parts.proofs.members.add_groups.Given as goal

abbrev pub invariant-loop-group : goal.invariant-loop-group
invariant-loop-group l =
    map member_shown l.found.items ≡ map member_shown l.initial.found.items
    ++ flat_map (listed_by l.module l.object) (take l.group-index l.group-items)
