use Rattle.std.proofs.Common.{refl}
use Rattle.link_model.specs.Kept.{Kept}
use Rattle.link_model.proofs.comdats.the_first_comdat_stays.Goals as goal

pub returns : goal.returns
unfolding Kept
returns c = refl
