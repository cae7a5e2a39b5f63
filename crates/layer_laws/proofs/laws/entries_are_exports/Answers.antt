use Rattle.layer_laws.proofs.EntriesAreOut.{entries_out}
use Rattle.layer_laws.proofs.laws.entries_are_exports.Goals as goal

pub returns : goal.returns
returns c = entries_out
