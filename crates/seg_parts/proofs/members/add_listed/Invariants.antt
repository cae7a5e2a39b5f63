use Rattle.std.proofs.Common.{◌≡◌, ◌++◌, map, take}
use Rattle.std.specs.List.{filter_map}
use Rattle.seg_parts.specs.Members.{member_shown, listed_at}
use Rattle.seg_parts.proofs.members.add_listed.Given as goal

abbrev pub invariant-loop-index : goal.invariant-loop-index
invariant-loop-index l =
    map member_shown l.found.items ≡ map member_shown l.initial.found.items
    ++ filter_map (listed_at l.module l.object l.group) (take l.index-index l.index-items)
