use Rattle.std.proofs.Common.{◌∙◌, ap, sym, ℕ, Option, take}
use Rattle.std.specs.Option.{option_or}
use Rattle.link_model.specs.Choosing.{defines}
use Rattle.sym_table.specs.Leading.{leader, given}
use Rattle.sym_table.proofs.LeaderTables.{position-more}
use Rattle.sym_table.proofs.choosing.leaders_of.Goals as goal

-- src/choosing.rt:70:5
pub loop-index-preserved : goal.loop-index-preserved
loop-index-preserved c = λ name.
    let m = c.index-libraries-index.result in
    let libraries = c.args.libraries.now in
    let i = c.loop-index.index in
    c.in_ok-add_module.ensures name
    ∙ ap (λ (o : Option ℕ). option_or o (given (defines m name) c.in_ok-count.field-0)) (c.loop-index.invariant name)
    ∙ ap (λ (n : ℕ). option_or (leader (take i libraries) name) (given (defines m name) n)) c.in_ok-count.ensures
    ∙ sym (position-more (λ o. defines o name) libraries i m c.loop-index-test.true c.index-libraries-index.is)
