use Rattle.std.proofs.Common.{◌≡◌, ◌++◌, map, filter}
use Rattle.std.specs.List.{flat_map}
use Rattle.std.specs.Bool.{beq}
use Rattle.lx_model.specs.NameTables.{name_spelling}
use Rattle.lx_model.specs.ExportTables.{named}
use Rattle.lx_exports.specs.Exports.{with_ordinals}
use Rattle.lx_exports.proofs.name_writing.push_names.Given as goal

abbrev pub invariant-loop-export : goal.invariant-loop-export
invariant-loop-export l =
    l.out.items ++ flat_map name_spelling (map named (filter (λ x. beq x.resident l.resident) (with_ordinals l.export-iterator.a.rest.now l.export-iterator.b.rest.now)))
    ≡ l.initial.out.items ++ flat_map name_spelling (map named (filter (λ x. beq x.resident l.resident) (with_ordinals l.exports l.ordinals)))
