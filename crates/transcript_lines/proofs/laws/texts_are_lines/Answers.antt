use Rattle.transcript_lines.proofs.LinesInTurn.{texts_are_lines}
use Rattle.transcript_lines.proofs.laws.texts_are_lines.Goals as goal

pub returns : goal.returns
returns c = texts_are_lines
