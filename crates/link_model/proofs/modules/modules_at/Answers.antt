use Rattle.std.proofs.Common.{arith}
use Rattle.std.proofs.lemmas.Grind.{common_steps}
use Rattle.std.proofs.lemmas.List.Elements.{filter_map-append}
use Rattle.link_model.proofs.modules.modules_at.Goals as goal
use Rattle.link_model.proofs.modules.modules_at.Goals.{in-Some+in_ok-push, in_default}

pub loop-pick-preserved : goal.loop-pick-preserved
loop-pick-preserved c = elim c.match-module_at.branch [
  | in-Some+in_ok-push w ↦ grind (arith, common_steps, filter_map-append)
  | in_default w ↦ grind (arith, common_steps, filter_map-append)
]
