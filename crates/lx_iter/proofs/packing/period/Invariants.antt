use Rattle.std.proofs.Common.{◌≡◌, drop}
use Rattle.std.specs.Prelude.{find}
use Rattle.lx_model.specs.Packed.{repeats, periods}
use Rattle.lx_iter.proofs.packing.period.Given as goal

-- no shorter pattern repeats
abbrev pub invariant-loop-period : goal.invariant-loop-period
invariant-loop-period l = record {
  items : l.period-items ≡ periods;
  left : find (repeats l.bytes) periods ≡ find (repeats l.bytes) (drop l.period-index periods);
}
