use Rattle.std.proofs.Common.{refl}
use Rattle.omf_model.proofs.Compute.{computed}
use Rattle.omf_model.proofs.examples.the_first_bytes.Goals as goal

pub returns : goal.returns
unfolding computed
returns c = refl
