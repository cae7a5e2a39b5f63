use Rattle.lx_model.proofs.FitModules.{fit_has_spots}
use Rattle.lx_model.proofs.laws.fit_modules_have_spots.Goals as goal

pub returns : goal.returns
returns c = fit_has_spots
