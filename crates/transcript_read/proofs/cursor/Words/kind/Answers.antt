use Rattle.load_model.specs.declared.deeds.CallKind.TheVariants as kinds
use Rattle.session_model.specs.Transcript.{kind_text}
use Rattle.dump_model.proofs.WordLaws.{told-or}
use Rattle.transcript_read.specs.Rows.{Any}
use Rattle.transcript_read.proofs.Chain.{word_takes}
use Rattle.transcript_read.proofs.cursor.Words.kind.Goals as goal

pub returns : goal.returns
returns c =
    word_takes kind_text Any c.kind_of-told.result c.is_some.result c.unwrap_or.result c.word.result.now _ _ _ c.word.ensures.front c.kind_of-told.ensures c.is_some.ensures
    (λ x is. told-or c.kind_of-told.result kinds.Init c.unwrap_or.result x c.unwrap_or.ensures is) c.hold.ensures
