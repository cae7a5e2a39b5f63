use Rattle.play_laws.proofs.CommandAsks.{entries_by_refusals}
use Rattle.play_laws.proofs.laws.entries_by_refusals.Goals as goal

pub returns : goal.returns
returns c = entries_by_refusals
