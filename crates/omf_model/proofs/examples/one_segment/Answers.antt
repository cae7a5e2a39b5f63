use Rattle.std.proofs.Common.{refl}
use Rattle.omf_model.proofs.Compute.{computed}
use Rattle.omf_model.proofs.examples.one_segment.Goals as goal

pub returns-clause-plain : goal.returns-clause-plain
unfolding computed
returns-clause-plain c = refl

pub returns-clause-fixed : goal.returns-clause-fixed
unfolding computed
returns-clause-fixed c = refl
