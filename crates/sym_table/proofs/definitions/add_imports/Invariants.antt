use Rattle.std.proofs.Common.{◌≡◌, ◌++◌, map, take}
use Rattle.link_model.specs.Symbols.{of_import}
use Rattle.sym_table.specs.Definitions.{shown}
use Rattle.sym_table.proofs.definitions.add_imports.Given as goal

abbrev pub invariant-loop-import : goal.invariant-loop-import
invariant-loop-import l =
    map shown l.found.items ≡ map shown l.initial.found.items ++ map (of_import l.by) (take l.import-index l.imports)
