use Rattle.memory_model.proofs.Touched.{memory_alike}
use Rattle.memory_model.proofs.laws.touches_change_nothing.Goals as goal

pub returns : goal.returns
returns c = memory_alike
