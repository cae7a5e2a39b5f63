use Rattle.link_model.proofs.KeptWhole.{kept_is_whole}
use Rattle.link_model.proofs.laws.what_is_kept_is_whole.Goals as goal

pub returns : goal.returns
returns c = kept_is_whole
