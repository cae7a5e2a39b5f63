use Rattle.std.proofs.Common.{◌≡◌, map, take}
use Rattle.link_model.specs.Appearance.{firsts}
use Rattle.sym_table.specs.Definitions.{shown}
use Rattle.sym_table.specs.Firsts.{same_name}
use Rattle.sym_table.specs.Meanings.{defined_by}
use Rattle.sym_table.proofs.meanings.defined_of.Given as goal

abbrev pub invariant-loop-definition : goal.invariant-loop-definition
invariant-loop-definition l =
    l.table ≡ firsts same_name (map (defined_by l.imports.list) (map shown (take l.definition-index l.found)))
