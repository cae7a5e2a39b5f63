use Rattle.std.proofs.Common.{◌≡◌, ◌++◌, map, take}
use Rattle.seg_parts.specs.Groups.{named_by}
use Rattle.seg_parts.proofs.groups.add_names.Given as goal

abbrev pub invariant-loop-group : goal.invariant-loop-group
invariant-loop-group l = map (λ n. n.now) l.found.items ≡ map (λ n. n.now) l.initial.found.items ++ named_by (take l.group-index l.groups)
