use Rattle.session_text.proofs.SessionTexts.{written-read}
use Rattle.session_text.proofs.laws.written_is_read.Goals as goal

pub returns : goal.returns
returns c = written-read
