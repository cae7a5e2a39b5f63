-- A load more counts the modules of its order once more.
use Rattle.std.proofs.Common.{◌<◌, List, ℕ, length, sym, subst}
use Rattle.std.specs.Prelude.{All}
use Rattle.load_model.specs.Entering.{holding, attaching}
use Rattle.load_model.specs.declared.deeds.How.TheVariants.{Load}
use Rattle.load_model.specs.ProcessCounts.{ProcessCounts, AreCountsOf, unreached}
use Rattle.mod_refs.proofs.CountLaws.{load_row}
use Rattle.mod_refs.proofs.load_counts.LoadCounts.load.Goals as goal

pub returns : goal.returns
returns c = λ lib p is order_is.
    let view = c.self.view_is in
    let was = subst (AreCountsOf lib p) (sym view) is in
    let there = subst (λ (counts : ProcessCounts). c.args.m < length counts.loads) (sym view) c.requires.module in
    let within = subst (λ (counts : ProcessCounts). All (λ k. k < length counts.reached) c.args.order.now) (sym view) c.requires.within in
    let now = load_row lib p _ c.args.order.now c.count_in.new.reached.items c.count_in.new.attached.items c.args.m was order_is there within c.count_in.ensures.reached c.count_in.ensures.attached in
    let After : List ℕ → Type 0 = λ loads. AreCountsOf lib (holding Load c.args.m (attaching (unreached lib p c.args.order.now) p)) (record { started = c.self.inside.started; loads = loads; reached = c.count_in.new.reached.items; attached = c.count_in.new.attached.items }) in
    subst After (sym c.add_one.ensures) now
