use Rattle.std.proofs.Common.{◌≡◌, ◌+◌, ◌++◌, drop}
use Rattle.std.specs.List.{flat_map, enumerate_from}
use Rattle.dump_model.specs.Dumps.{numbered_import_line}
use Rattle.dump_write.proofs.entries.push_imports.Given as goal

abbrev pub invariant-loop-name : goal.invariant-loop-name
invariant-loop-name l =
    (l.number ≡ l.name-index)
    × (l.out.items ++ flat_map numbered_import_line (enumerate_from (l.number + 1) (drop l.name-index l.imports))
    ≡ l.initial.out.items ++ flat_map numbered_import_line (enumerate_from 1 l.imports))
