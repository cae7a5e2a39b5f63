-- A process without roots reaches nothing.
use Rattle.std.proofs.Common.{length, sym, ap, ◌∙◌, subst}
use Rattle.load_model.specs.State.{new_process}
use Rattle.load_model.specs.ProcessCounts.{ProcessCounts, AreCountsOf}
use Rattle.mod_refs.proofs.CountLaws.{exit_row}
use Rattle.mod_refs.proofs.load_counts.LoadCounts.exit.Goals as goal

pub returns : goal.returns
returns c = λ lib p e is.
    let long = sym is.loads_are ∙ sym (ap (λ (counts : ProcessCounts). length counts.loads) c.self.view_is) ∙ sym c.len.ensures.value in
    exit_row lib p e _ (subst (AreCountsOf lib new_process) (sym c.drop.view_is) (c.new.ensures lib long))
