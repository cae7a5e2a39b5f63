use Rattle.transcript_whole.proofs.Placed.{begins}
use Rattle.transcript_whole.proofs.reading.Reading.new.Goals as goal

pub returns : goal.returns
returns c = begins c.new.result c.new.ensures
