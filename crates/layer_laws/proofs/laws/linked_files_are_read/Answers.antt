use Rattle.layer_laws.proofs.ImagesFit.{linked_read}
use Rattle.layer_laws.proofs.laws.linked_files_are_read.Goals as goal

pub returns : goal.returns
returns c = linked_read
