use Rattle.std.proofs.Common.{rules, filter, not, ap, ◌∙◌}
use Rattle.load_model.specs.State.{Residence, is_among}
use Rattle.residence_table.proofs.TableEdits.{filter_from_retained}
use Rattle.residence_table.proofs.table.ResidenceTable.end.Goals as goal

pub returns : goal.returns
returns g c =
    filter_from_retained _ (λ (s : Residence × g.row.T.Denot). not (is_among c.args.gone.now s.0.«module»)) _ (λ x b q called. search rules) _ _ c.retain.ensures.filtered
    ∙ ap (filter (λ (s : Residence × g.row.T.Denot). not (is_among c.args.gone.now s.0.«module»))) c.self.view_is
