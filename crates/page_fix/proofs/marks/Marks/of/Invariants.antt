use Rattle.std.proofs.Common.{◌≡◌, map}
use Rattle.std.specs.List.{range_with_len}
use Rattle.page_fix.specs.Fixable.{is_fixable}
use Rattle.page_fix.proofs.marks.Marks.of.Given as goal

-- the marks of the pages so far
abbrev pub invariant-loop-page : goal.invariant-loop-page
invariant-loop-page l = l.marks.items ≡ map (λ n. is_fixable l.m (record { object = l.object; page = n })) (range_with_len 0 l.page)
