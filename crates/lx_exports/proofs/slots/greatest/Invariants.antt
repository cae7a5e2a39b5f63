use Rattle.std.proofs.Common.{◌≡◌, drop, max}
use Rattle.lx_exports.specs.Slots.{greatest_of}
use Rattle.lx_exports.proofs.slots.greatest.Given as goal

abbrev pub invariant-loop-ordinal : goal.invariant-loop-ordinal
invariant-loop-ordinal l = max l.greatest (greatest_of (drop l.ordinal-index l.ordinals)) ≡ greatest_of l.ordinals
