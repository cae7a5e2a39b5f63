use Rattle.std.proofs.Common.{take}
use Rattle.std.specs.List.{All}
use Rattle.link_core.specs.Ranges.{HasRange}
use Rattle.link_core.proofs.ranges.object_ranges.Given as goal

abbrev pub invariant-loop-page : goal.invariant-loop-page
invariant-loop-page l = All (All HasRange) (take l.page-index l.pages)
