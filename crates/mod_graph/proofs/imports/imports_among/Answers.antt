use Rattle.std.proofs.Common.{arith}
use Rattle.std.proofs.lemmas.Grind.{common_steps}
use Rattle.std.proofs.lemmas.List.Elements.{filter_map-append}
use Rattle.mod_graph.proofs.imports.imports_among.Goals as goal
use Rattle.mod_graph.proofs.imports.imports_among.Goals.{in-Some+in_ok-push, in_default}

pub loop-name-preserved : goal.loop-name-preserved
loop-name-preserved c = elim c.match-library_with_name.branch [
  | in-Some+in_ok-push w ↦ (grind (arith, common_steps, filter_map-append), grind (arith, common_steps))
  | in_default w ↦ (grind (arith, common_steps, filter_map-append), grind (arith, common_steps))
]
