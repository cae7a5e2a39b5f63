use Rattle.std.proofs.Common.{◌≡◌, map, take}
use Rattle.sym_table.specs.Definitions.{shown, imports_among}
use Rattle.sym_table.specs.ImportLists.{AreListed}
use Rattle.sym_table.proofs.imports.imports_of.Given as goal

abbrev pub invariant-loop-definition : goal.invariant-loop-definition
invariant-loop-definition l =
    AreListed l.imports × (l.imports.list ≡ imports_among (map shown (take l.definition-index l.found)))
