use Rattle.session_model.specs.Transcript.{module_text}
use Rattle.check_model.specs.Told.{IsModuleOf}
use Rattle.dump_model.proofs.WordLaws.{told-or}
use Rattle.transcript_read.proofs.Chain.{word_takes}
use Rattle.transcript_read.proofs.cursor.Words.module.Goals as goal

pub returns : goal.returns
returns c =
    word_takes (module_text c.args.names.now) (IsModuleOf c.args.names.now) c.module_of-told.result c.is_some.result c.unwrap_or.result c.word.result.now _ _ _ c.word.ensures.front
    c.module_of-told.ensures c.is_some.ensures (λ x is. told-or c.module_of-told.result 0 c.unwrap_or.result x c.unwrap_or.ensures is) c.hold.ensures
