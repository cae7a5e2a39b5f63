use Rattle.std.proofs.Common.{◌∙◌, ◌+◌, ◌<◌, ap, arith, length}
use Rattle.std.proofs.lemmas.List.{set-get_or}
use Rattle.comdat_core.specs.Aside.{with_lists}
use Rattle.comdat_core.proofs.AsideLists.{put_from, put_next, put_past}
use Rattle.comdat_core.proofs.aside.put_lists.Goals as goal
use Rattle.comdat_core.proofs.aside.put_lists.Goals.{in-Some, in_default}

pub loop-module-preserved : goal.loop-module-preserved
loop-module-preserved c =
    let now = c.loop-module.module-items in
    let i = c.loop-module.module-index in
    let m = c.module-item.result in
    let all = with_lists c.args.modules.now c.args.lists.items in
    let below : i < length now = omega (arith, c.loop-module-test.true, c.loop-module.auto.module-items) in
    elim c.match-next.branch [
      | in-Some w ↦ ap (λ ms. put_from (i + 1) ms c.next.new.self.rest.items) w.module-items-is ∙ put_next now all i m w.in-Some.comdats c.loop-module.rest.rest.items c.next.new.self.rest.items below c.loop-module.invariant w.in-Some.ensures.items
      | in_default w ↦ ap (λ ms. put_from (i + 1) ms c.next.new.self.rest.items) (w.module-items-is ∙ set-get_or now i m) ∙ put_past now all i c.loop-module.rest.rest.items c.next.new.self.rest.items c.loop-module.invariant (omega (arith, w.in_default.ensures.cases.0, c.loop-module.rest.rest.ok)) w.in_default.ensures.items
    ]
