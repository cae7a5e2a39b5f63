use Rattle.std.proofs.Common.{refl}
use Rattle.omf_model.proofs.Compute.{computed}
use Rattle.omf_model.proofs.examples.threads.Goals as goal

pub returns-clause-set : goal.returns-clause-set
unfolding computed
returns-clause-set c = refl

pub returns-clause-unset : goal.returns-clause-unset
unfolding computed
returns-clause-unset c = refl
