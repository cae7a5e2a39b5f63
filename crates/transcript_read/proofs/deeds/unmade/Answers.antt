use Rattle.transcript_read.proofs.Tellings.{none_unmade}
use Rattle.transcript_read.proofs.deeds.unmade.Goals as goal

pub returns-in_default-failed : goal.returns-in_default-failed
returns-in_default-failed c = none_unmade c.args.names.now _ c.in_default.ensures c.in_default-failed.ensures
