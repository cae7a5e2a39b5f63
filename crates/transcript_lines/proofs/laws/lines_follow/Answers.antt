use Rattle.transcript_lines.proofs.Endings.{lines_follow, lines_begin}
use Rattle.transcript_lines.proofs.laws.lines_follow.Goals as goal

pub returns : goal.returns
returns c = record { whole = lines_follow; begin = lines_begin }
