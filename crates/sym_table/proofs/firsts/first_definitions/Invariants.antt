use Rattle.std.proofs.Common.{◌≡◌, [], None, map, take}
use Rattle.link_model.specs.Words.{first_conflict}
use Rattle.link_model.specs.SymbolRefusals.{conflicts}
use Rattle.sym_table.specs.Definitions.{shown}
use Rattle.sym_table.specs.Firsts.{firsts_of}
use Rattle.sym_table.proofs.firsts.first_definitions.Given as goal

abbrev pub invariant-loop-definition : goal.invariant-loop-definition
invariant-loop-definition l =
    (l.table ≡ firsts_of (take l.definition-index l.found)) × (first_conflict conflicts [] (map shown (take l.definition-index l.found)) ≡ None)
