use Rattle.std.proofs.Common.{take, map}
use Rattle.seg_parts.specs.Placing.{unplaced_shown}
use Rattle.seg_parts.proofs.Walk.{Walked}
use Rattle.seg_parts.proofs.rows.rows_of.Given as goal

abbrev pub invariant-loop-unit : goal.invariant-loop-unit
invariant-loop-unit l = Walked l.count (map unplaced_shown (take l.unit-index l.units)) l.rows.items l.ends
