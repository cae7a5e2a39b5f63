use Rattle.std.proofs.Common.{refl}
use Rattle.omf_model.proofs.Compute.{computed}
use Rattle.omf_model.proofs.comdats.each_comdat_refusal.Goals as goal

pub returns : goal.returns
unfolding computed
returns c = refl
