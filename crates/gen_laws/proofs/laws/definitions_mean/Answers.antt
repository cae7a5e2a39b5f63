use Rattle.gen_laws.proofs.LinksDefinitions.{definitions_said}
use Rattle.gen_laws.proofs.laws.definitions_mean.Goals as goal

pub returns : goal.returns
returns c = definitions_said
