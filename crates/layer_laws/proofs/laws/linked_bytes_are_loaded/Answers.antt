use Rattle.layer_laws.proofs.EveryByte.{linked_loaded}
use Rattle.layer_laws.proofs.laws.linked_bytes_are_loaded.Goals as goal

pub returns : goal.returns
returns c = linked_loaded
