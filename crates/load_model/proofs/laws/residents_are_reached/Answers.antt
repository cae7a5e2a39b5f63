use Rattle.load_model.proofs.Residents.{reached_is_resident, attached_is_reached, counts_are_residence}
use Rattle.load_model.proofs.laws.residents_are_reached.Goals as goal

pub returns : goal.returns
returns c = record { resident = reached_is_resident; attached = attached_is_reached; counts = counts_are_residence }
