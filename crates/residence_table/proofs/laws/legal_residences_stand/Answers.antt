use Rattle.residence_table.proofs.LegalResidences.{legal_stand}
use Rattle.residence_table.proofs.laws.legal_residences_stand.Goals as goal

pub returns : goal.returns
returns c = legal_stand c.residents_are_reached.ensures.resident c.reached_is_fit.ensures.reached c.residences_stand.ensures.bases c.serials_rise.ensures.rise
