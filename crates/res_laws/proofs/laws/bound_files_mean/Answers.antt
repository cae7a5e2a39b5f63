use Rattle.res_laws.proofs.Bindings.{bound_files_mean}
use Rattle.res_laws.proofs.laws.bound_files_mean.Goals as goal

pub returns : goal.returns
returns c = bound_files_mean
