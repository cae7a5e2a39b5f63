use Rattle.std.proofs.Common.{◌≡◌, ◌++◌, drop}
use Rattle.res_model.specs.Placed.{end_from, entries_from}
use Rattle.res_bind.proofs.items.push_resources.Given as goal

abbrev pub invariant-loop-item : goal.invariant-loop-item
invariant-loop-item l = record {
  size : end_from l.end (drop l.item-index l.items) ≡ end_from 0 l.items;
  bytes : l.out.items ++ entries_from l.object l.end (drop l.item-index l.items) ≡ l.initial.out.items ++ entries_from l.object 0 l.items;
}
