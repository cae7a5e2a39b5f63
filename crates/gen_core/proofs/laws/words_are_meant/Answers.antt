use Rattle.gen_core.proofs.Meant.{words_meant}
use Rattle.gen_core.proofs.laws.words_are_meant.Goals as goal

pub returns : goal.returns
returns c = words_meant c.inputs_are_whole.ensures c.modules_load.ensures.fit c.linked_bytes_are_loaded.ensures
