use Rattle.std.proofs.Common.{◌-◌}
use Rattle.lx_types.proofs.Ordinals.{Narrowed}
use Rattle.lx_types.proofs.module.entry_with.Given as goal

abbrev pub invariant-loop-low : goal.invariant-loop-low
invariant-loop-low l = Narrowed l.entries l.ordinal l.low l.high

abbrev pub decreases-loop-low : goal.decreases-loop-low
decreases-loop-low l = l.high - l.low
