use Rattle.std.proofs.Common.{◌≡◌, map, take}
use Rattle.std.specs.List.{flat_map}
use Rattle.seg_parts.specs.Groups.{named_by}
use Rattle.seg_parts.proofs.groups.all_names.Given as goal

abbrev pub invariant-loop-object : goal.invariant-loop-object
invariant-loop-object l = map (λ n. n.now) l.found.items ≡ flat_map (λ m. named_by m.now.groups) (take l.object-index l.modules)
