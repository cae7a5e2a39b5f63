use Rattle.res_laws.proofs.Served.{bound_modules_serve}
use Rattle.res_laws.proofs.laws.bound_modules_serve.Goals as goal

pub returns : goal.returns
returns c = bound_modules_serve
