-- A program counts the modules of its order once more.
use Rattle.std.proofs.Common.{◌≡◌, ◌<◌, None, length, sym, subst}
use Rattle.std.specs.Prelude.{All}
use Rattle.load_model.specs.ProcessCounts.{ProcessCounts, AreCountsOf}
use Rattle.mod_refs.proofs.CountLaws.{start_row}
use Rattle.mod_refs.proofs.load_counts.LoadCounts.start.Goals as goal

pub returns : goal.returns
returns c = λ lib p is order_is.
    let view = c.self.view_is in
    let was = subst (AreCountsOf lib p) (sym view) is in
    let idle = subst (λ (counts : ProcessCounts). counts.started ≡ None) (sym view) c.requires.idle in
    let within = subst (λ (counts : ProcessCounts). All (λ k. k < length counts.reached) c.args.order.now) (sym view) c.requires.within in
    start_row lib p _ c.args.order.now c.count_in.new.reached.items c.count_in.new.attached.items c.args.m was idle order_is within c.count_in.ensures.reached c.count_in.ensures.attached
