use Rattle.std.proofs.Common.{◌≡◌, ◌++◌, map, take, filter, not}
use Rattle.std.specs.List.{enumerate_from}
use Rattle.link_model.specs.Parts as rules
use Rattle.seg_parts.specs.Parts.{shown}
use Rattle.seg_parts.proofs.parts.add_contributions.Given as goal

abbrev pub invariant-loop-place : goal.invariant-loop-place
invariant-loop-place l =
    map shown l.found.items ≡ map shown l.initial.found.items
    ++ map (λ q. rules.of_seg l.module q.0 q.1) (filter (λ q. not q.1.debug) (enumerate_from 1 (take l.place l.segs)))
