use Rattle.process_view.proofs.Words.{ap, arith, length, List, new_view, Parts, sym, ◌∙◌}
use Rattle.process_view.proofs.Mapping.{view_is_new}
use Rattle.process_view.proofs.view.View.make.Goals as goal

pub returns : goal.returns
returns c =
    let lent : List Parts = c.lend.result in
    view_is_new lent c.args.pid c.new-counts.result c.new.result.items c.new-2.result.items _ _
    (c.new-counts.ensures lent (ap (λ (xs : List Parts). length xs) (c.lend.ensures ∙ sym c.deref.ensures) ∙ sym c.len.ensures.count)) c.new.ensures.items c.new-2.ensures.items
    (omega (arith, c.new-2.ensures.capacity)) (omega (arith, c.new.ensures.capacity))
    ∙ ap (λ (xs : List Parts). new_view xs c.args.pid) c.lend.ensures
