use Rattle.dump_model.proofs.WordLaws.{told-or}
use Rattle.transcript_lines.specs.Lines.{IsProcess}
use Rattle.transcript_read.specs.Rows.{process_word}
use Rattle.transcript_read.proofs.Chain.{word_takes}
use Rattle.transcript_read.proofs.cursor.Words.process.Goals as goal

pub returns : goal.returns
returns c =
    word_takes process_word IsProcess c.process_of-told.result c.is_some.result c.unwrap_or.result c.word.result.now _ _ _ c.word.ensures.front c.process_of-told.ensures c.is_some.ensures
    (λ x is. told-or c.process_of-told.result 0 c.unwrap_or.result x c.unwrap_or.ensures is) c.hold.ensures
