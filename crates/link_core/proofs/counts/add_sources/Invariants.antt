use Rattle.std.proofs.Common.{◌≡◌, ◌+◌, length, take}
use Rattle.std.specs.List.{sum_by}
use Rattle.link_core.proofs.counts.add_sources.Given as goal

abbrev pub invariant-loop-fixes : goal.invariant-loop-fixes
invariant-loop-fixes l = l.count ≡ l.fn.count + sum_by length (take l.fixes-index l.pages)
