use Rattle.std.proofs.Common.{◌≡◌, ◌++◌, map, take}
use Rattle.std.specs.List.{enumerate_from}
use Rattle.seg_parts.specs.Parts.{shown}
use Rattle.seg_parts.specs.Communals.{communal_of}
use Rattle.seg_parts.proofs.communals.add_communals.Given as goal

abbrev pub invariant-loop-slot : goal.invariant-loop-slot
invariant-loop-slot l =
    map shown l.parts.items ≡ map shown l.initial.parts.items
    ++ map (λ q. communal_of l.widths.near l.widths.far q.0 q.1.1) (enumerate_from 0 (take l.slot l.commons))
