use Rattle.transcript_whole.proofs.Placed.{begun}
use Rattle.transcript_whole.proofs.following.at_start.Goals as goal

pub returns-in-History : goal.returns-in-History
returns-in-History c history named are_named empty = begun c.args.line.now named history c.in-History.is are_named empty
