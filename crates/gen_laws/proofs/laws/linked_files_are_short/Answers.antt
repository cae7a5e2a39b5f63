use Rattle.gen_laws.proofs.ShortFiles.{files_short}
use Rattle.gen_laws.proofs.laws.linked_files_are_short.Goals as goal

pub returns : goal.returns
returns c = files_short c.inputs_are_whole.ensures
