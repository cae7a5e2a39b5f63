use Rattle.std.proofs.Common.{refl}
use Rattle.omf_model.proofs.Compute.{computed}
use Rattle.omf_model.proofs.comdats.comdats_are_segments.Goals as goal

pub returns-clause-alone : goal.returns-clause-alone
unfolding computed
returns-clause-alone c = refl

pub returns-clause-continued : goal.returns-clause-continued
unfolding computed
returns-clause-continued c = refl
