use Rattle.std.specs.Prelude.{All}
use Rattle.lx_model.specs.Module.{IsRead}
use Rattle.residence_tests.proofs.modules.modules_of.Given as goal

abbrev pub invariant-loop-shape : goal.invariant-loop-shape
invariant-loop-shape l = All IsRead l.modules.items
