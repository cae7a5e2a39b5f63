use Rattle.lx_model.proofs.Once.{once_more}
use Rattle.lx_model.proofs.laws.one_target_more.Goals as goal

pub returns : goal.returns
returns c = once_more
