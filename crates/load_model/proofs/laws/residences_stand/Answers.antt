use Rattle.load_model.proofs.ResidenceBases.{bases_stand, residents_fit}
use Rattle.load_model.proofs.laws.residences_stand.Goals as goal

pub returns : goal.returns
returns c = record { bases = bases_stand; fit = residents_fit }
