use Rattle.std.proofs.Common.{◌++◌, ◌∷◌, [], ◌∙◌, ◌<◌, List, ap, arith, length}
use Rattle.std.proofs.Math.ListN.{get_or, set}
use Rattle.obj_types.specs.declared.object.Comdat.{Comdat}
use Rattle.comdat_core.proofs.AsideLists.{bare_next, lists_next}
use Rattle.comdat_core.proofs.aside.take_lists.Goals as goal

pub loop-module-preserved : goal.loop-module-preserved
loop-module-preserved c =
    let ms = c.args.modules.now in
    let now = c.loop-module.module-items in
    let i = c.loop-module.module-index in
    let m = c.module-item.result in
    let was = c.loop-module.invariant in
    let below : i < length ms = omega (arith, c.loop-module-test.true, c.loop-module.auto.module-items, ap length c.deref_mut-module-items.ensures.value, ap length c.into_vec-bare.ensures, ap length c.replace.ensures.value) in (
      ap (λ (cs : List Comdat). set now i (record (get_or now i m) { comdats = cs })) (c.replace-in-loop-module.ensures.after ∙ c.new-in-loop-module.ensures) ∙ bare_next ms now i m was.0 below,
      lists_next ms now i m c.loop-module.lists.items c.push.new.self.items was.0 below was.1 (c.in_ok-push.ensures.items ∙ ap (λ (cs : List Comdat). c.loop-module.lists.items ++ cs ∷ []) c.replace-in-loop-module.ensures.value),
    )
