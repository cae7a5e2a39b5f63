use Rattle.std.proofs.Common.{◌≡◌, ◌++◌, false, drop, map}
use Rattle.std.specs.List.{enumerate_from}
use Rattle.link_model.specs.Choosing.{object_picks}
use Rattle.sym_table.proofs.choosing.object_files.Given as goal

abbrev pub invariant-loop-index : goal.invariant-loop-index
invariant-loop-index l =
    l.picks ++ map (λ q. record { lib = false; index = q.0 }) (enumerate_from l.index (drop l.index l.input.objects)) ≡ object_picks l.input
