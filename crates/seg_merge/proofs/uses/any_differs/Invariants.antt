use Rattle.std.proofs.Common.{◌≡◌, None, take, get_or, false}
use Rattle.std.specs.List.{list_any}
use Rattle.seg_merge.specs.Uses.{conflicts}
use Rattle.seg_merge.proofs.uses.any_differs.Given as goal

abbrev pub invariant-loop-group : goal.invariant-loop-group
invariant-loop-group l = list_any (λ g. conflicts l.wide (get_or l.uses g None)) (take l.group-index l.groups) ≡ false
