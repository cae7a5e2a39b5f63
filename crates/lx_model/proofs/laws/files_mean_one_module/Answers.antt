use Rattle.lx_model.proofs.Meaning.{either}
use Rattle.lx_model.proofs.laws.files_mean_one_module.Goals as goal

pub returns-clause-either : goal.returns-clause-either
returns-clause-either c = either
