use Rattle.std.proofs.Common.{◌≡◌, map, take}
use Rattle.seg_merge.specs.Placing.{object_named}
use Rattle.seg_merge.proofs.placing_groups.groups_in.Given as goal

abbrev pub invariant-loop-group : goal.invariant-loop-group
invariant-loop-group l = l.found.items ≡ map (λ g. object_named l.names l.objects g.name) (take l.group-index l.groups)
