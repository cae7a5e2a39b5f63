use Rattle.run_laws.proofs.Agreeing.{held_as_linked}
use Rattle.run_laws.proofs.laws.built_bytes_are_held.Goals as goal

pub returns : goal.returns
returns c = held_as_linked c.linked_bytes_are_loaded.ensures c.linked_files_are_read.ensures c.reached_modules_stand.ensures
