use Rattle.std.proofs.Common.{take}
use Rattle.std.specs.List.{All}
use Rattle.link_core.specs.Ranges.{HasRange}
use Rattle.link_core.proofs.ranges.fix_ranges.Given as goal

abbrev pub invariant-loop-pages : goal.invariant-loop-pages
invariant-loop-pages l = All (All (All HasRange)) (take l.pages-index l.objects)
