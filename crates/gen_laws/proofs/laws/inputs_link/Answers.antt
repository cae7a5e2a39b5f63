use Rattle.gen_laws.proofs.LinksInputs.{inputs_linked}
use Rattle.gen_laws.proofs.laws.inputs_link.Goals as goal

pub returns : goal.returns
returns c = inputs_linked
