use Rattle.std.proofs.Common.{◌≡◌, ◌<◌, ◌^◌, drop}
use Rattle.res_model.specs.Bound.{ends_above}
use Rattle.res_bind.proofs.tables.base_above.Given as goal

abbrev pub invariant-loop-object : goal.invariant-loop-object
invariant-loop-object l = record {
  ends : ends_above l.end (drop l.object-index l.objects) ≡ ends_above 0 l.objects;
  small : l.end < 2 ^ 33;
}
