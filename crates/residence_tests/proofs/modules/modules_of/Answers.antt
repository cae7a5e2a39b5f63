use Rattle.std.proofs.Common.{sym, subst}
use Rattle.std.specs.Prelude.{All}
use Rattle.std.proofs.lemmas.List.Elements.{All-push}
use Rattle.lx_model.specs.Module.{IsRead}
use Rattle.residence_tests.proofs.modules.modules_of.Goals as goal

pub loop-shape-preserved : goal.loop-shape-preserved
loop-shape-preserved c =
    subst (All IsRead) (sym c.in_ok-push.ensures.items) (All-push IsRead c.loop-shape.modules.items c.in_ok-module_of.field-0 c.loop-shape.invariant c.in_ok-module_of.ensures)
