use Rattle.std.proofs.Common.{◌≡◌, ◌<◌, ◌^◌, drop}
use Rattle.res_model.specs.Placed.{end_from}
use Rattle.res_bind.proofs.layout.size_of.Given as goal

abbrev pub invariant-loop-item : goal.invariant-loop-item
invariant-loop-item l = record { size : end_from l.end (drop l.item-index l.items) ≡ end_from 0 l.items; small : l.end < 2 ^ 32 }
