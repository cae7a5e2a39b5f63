use Rattle.std.proofs.Common.{Option, subst}
use Rattle.transcript_lines.specs.declared.lines.TranscriptLine.{TranscriptLine}
use Rattle.transcript_read.specs.TellsLine.{TellsLine}
use Rattle.transcript_whole.proofs.Apart.{lines_apart}
use Rattle.transcript_whole.proofs.SoFars.{no_text, if_takes}
use Rattle.transcript_whole.proofs.reading.Reading.with_text.Goals as goal

pub returns-in_default : goal.returns-in_default
returns-in_default c =
    no_text c.args.names.now c.args.self c.args.text.now (subst (λ (o : Option TranscriptLine). TellsLine c.args.names.now o c.args.text.now) c.in_default.is c.in_ok-line.ensures)

pub returns : goal.returns
returns c =
    if_takes c.args.names.now (lines_apart c.args.names.now c.requires) c.args.self c.in-Some.line c.args.text.now c.with_line.result
    (subst (λ (o : Option TranscriptLine). TellsLine c.args.names.now o c.args.text.now) c.in-Some.is c.in_ok-line.ensures) c.with_line.ensures
