use Rattle.base_pick.proofs.Gaps.{IsAfter}
use Rattle.base_pick.proofs.search.least_place.Given as goal

abbrev pub invariant-loop-range : goal.invariant-loop-range
invariant-loop-range l = IsAfter l.arena l.ranges l.size l.range-index l.base
