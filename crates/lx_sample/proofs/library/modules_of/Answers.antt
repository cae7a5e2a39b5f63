use Rattle.std.proofs.Common.{List, Option, sym, subst}
use Rattle.std.specs.Prelude.{All, IfSome}
use Rattle.std.proofs.lemmas.List.Elements.{All-push}
use Rattle.lx_types.specs.declared.parts.Parts.{Parts}
use Rattle.lx_model.specs.Module.{IsRead}
use Rattle.lx_sample.proofs.library.modules_of.Goals as goal

pub loop-file-preserved : goal.loop-file-preserved
loop-file-preserved c =
    let Read : Option Parts → Type 0 = λ o. IfSome o IsRead in
    subst (λ (ms : List Parts). All IsRead ms) (sym c.in_ok-push-in-Some-2.ensures.items)
    (All-push IsRead c.loop-file.modules.items c.in-Some-2.module c.loop-file.invariant (subst Read c.in-Some-2.is c.in_ok-module.ensures))
