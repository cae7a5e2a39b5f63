use Rattle.transcript_read.proofs.Steps.{known_takes}
use Rattle.transcript_read.proofs.cursor.Words.known.Goals as goal

pub returns : goal.returns
returns c = known_takes c.args.text.now c.word-word.result.now c.is_word.result _ _ _ c.word-word.ensures.front c.is_word.ensures c.hold.ensures
