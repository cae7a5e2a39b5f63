use Rattle.std.proofs.Common.{refl}
use Rattle.image_model.proofs.Rules.{rules}
use Rattle.image_model.proofs.worked.forwarder_file.Goals as goal

pub returns : goal.returns
unfolding rules
returns c = record { file = refl }
