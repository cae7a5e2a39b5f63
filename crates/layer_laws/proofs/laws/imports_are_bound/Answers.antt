use Rattle.layer_laws.proofs.ImportsBind.{imports_bind}
use Rattle.layer_laws.proofs.laws.imports_are_bound.Goals as goal

pub returns : goal.returns
returns c = imports_bind
