use Rattle.std.proofs.Common.{◌≡◌, ◌+◌, take, sum_by}
use Rattle.obj_types.specs.Input.{counted}
use Rattle.tool_read.proofs.counts.with_modules.Given as goal

abbrev pub invariant-loop-own : goal.invariant-loop-own
invariant-loop-own l = l.count ≡ l.before + sum_by counted (take l.own-index l.modules)
