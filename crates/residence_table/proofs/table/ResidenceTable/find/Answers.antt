use Rattle.std.proofs.Common.{ap, sym, ◌∙◌}
use Rattle.std.specs.Prelude.{option_map}
use Rattle.load_model.specs.State.{Residence}
use Rattle.residence_table.specs.Residences.{residences}
use Rattle.residence_table.proofs.Resident.{residence_is, residence_in_table}
use Rattle.residence_table.proofs.table.ResidenceTable.find.Goals as goal

pub returns-clause-residence : goal.returns-clause-residence
returns-clause-residence g c = λ e same.
    ap (option_map (λ (s : Residence × g.row.T.Denot). s.0)) c.first_of.ensures
    ∙ sym (residence_is e (residences c.args.self.now) c.args.m same ∙ residence_in_table c.args.self.now c.args.m)
