use Rattle.gen_laws.proofs.WritableModules.{objects_written}
use Rattle.gen_laws.proofs.laws.objects_are_writable.Goals as goal

pub returns : goal.returns
returns c = objects_written
