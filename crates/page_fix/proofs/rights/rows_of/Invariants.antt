use Rattle.std.proofs.Common.{◌≡◌, map}
use Rattle.std.specs.List.{range_with_len}
use Rattle.page_fix.specs.Rights.{fixable_row}
use Rattle.page_fix.proofs.rights.rows_of.Given as goal

-- the rows of the objects so far
abbrev pub invariant-loop-before : goal.invariant-loop-before
invariant-loop-before l = l.rows.items ≡ map (fixable_row l.m) (range_with_len 1 l.before)
