use Rattle.std.proofs.Common.{◌≡◌, map, take}
use Rattle.seg_merge.specs.Placing.{object_named}
use Rattle.seg_merge.proofs.placing_groups.groups_of.Given as goal

abbrev pub invariant-loop-object : goal.invariant-loop-object
invariant-loop-object l = map (λ v. v.items) l.found.items ≡ map (λ m. map (λ g. object_named l.names l.objects g.name) m.now.groups) (take l.object-index l.modules)
