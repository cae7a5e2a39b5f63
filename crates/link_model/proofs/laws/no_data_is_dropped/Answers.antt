use Rattle.link_model.proofs.PiecesStay.{pieces_stay}
use Rattle.link_model.proofs.laws.no_data_is_dropped.Goals as goal

pub returns : goal.returns
returns c = pieces_stay
