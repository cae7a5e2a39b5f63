use Rattle.std.proofs.Common.{◌≡◌, ◌++◌, drop}
use Rattle.std.specs.List.{flat_map}
use Rattle.lx_model.specs.NameTables.{import_spelling}
use Rattle.lx_write.proofs.names.push_names.Given as goal

abbrev pub invariant-loop-name : goal.invariant-loop-name
invariant-loop-name l = l.out.items ++ flat_map import_spelling (drop l.name-index l.names) ≡ l.initial.out.items ++ flat_map import_spelling l.names
