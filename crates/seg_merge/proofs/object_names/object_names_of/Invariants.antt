use Rattle.std.proofs.Common.{◌≡◌, map}
use Rattle.std.specs.List.{range_with_len}
use Rattle.seg_parts.specs.Objects.{object_shown}
use Rattle.seg_parts.specs.Parts.{shown}
use Rattle.seg_merge.specs.Ordered.{key_at}
use Rattle.seg_merge.proofs.object_names.object_names_of.Given as goal

abbrev pub invariant-loop-number : goal.invariant-loop-number
invariant-loop-number l = map object_shown l.objects.items ≡ map (key_at (map shown l.heads) l.flags l.names (map (λ v. v.items) l.groups)) (range_with_len 0 l.number)
