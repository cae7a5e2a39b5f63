use Rattle.std.proofs.Common.{◌≡◌, map, take}
use Rattle.seg_parts.specs.Objects.{object_shown}
use Rattle.seg_merge.proofs.objects.names_of.Given as goal

abbrev pub invariant-loop-segment : goal.invariant-loop-segment
invariant-loop-segment l = map object_shown l.names.items ≡ map (λ o. object_shown o.object) (take l.segment-index l.ordered)
