use Rattle.link_model.proofs.NamesAtOffsets.{names_at_offsets}
use Rattle.link_model.proofs.laws.names_stand_at_their_offsets.Goals as goal

pub returns : goal.returns
returns c = names_at_offsets
