use Rattle.gen_laws.proofs.WritableModules.{inputs_whole}
use Rattle.gen_laws.proofs.laws.inputs_are_whole.Goals as goal

pub returns : goal.returns
returns c = inputs_whole
