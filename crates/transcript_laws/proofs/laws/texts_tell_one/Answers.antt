use Rattle.transcript_laws.proofs.ToldRows.{texts_tell_one, transcripts_tell_one_run}
use Rattle.transcript_laws.proofs.laws.texts_tell_one.Goals as goal

pub returns : goal.returns
returns c = record { told = texts_tell_one; runs = transcripts_tell_one_run }
