use Rattle.std.proofs.Common.{◌≡◌, map, take}
use Rattle.seg_merge.specs.Ordered.{ordered_shown}
use Rattle.seg_merge.specs.Laid.{flags_of_objects}
use Rattle.seg_merge.proofs.objects.flags_of_objects.Given as goal

abbrev pub invariant-loop-place : goal.invariant-loop-place
invariant-loop-place l = l.flags.items ≡ flags_of_objects (take l.place (map ordered_shown l.ordered))
