use Rattle.std.proofs.Common.{take}
use Rattle.std.specs.List.{All}
use Rattle.link_core.specs.Ranges.{HasRange}
use Rattle.link_core.proofs.ranges.page_ranges.Given as goal

abbrev pub invariant-loop-fix : goal.invariant-loop-fix
invariant-loop-fix l = All HasRange (take l.fix-index l.fixes)
