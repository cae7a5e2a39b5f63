use Rattle.load_model.proofs.Serials.{serials_rise}
use Rattle.load_model.proofs.SerialsOwn.{serials_are_own}
use Rattle.load_model.proofs.laws.serials_rise.Goals as goal

pub returns : goal.returns
returns c = record { rise = serials_rise; own = serials_are_own }
