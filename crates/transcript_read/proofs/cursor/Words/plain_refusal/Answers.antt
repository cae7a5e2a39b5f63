use Rattle.load_model.specs.declared.commands.Refusal.TheVariants as why
use Rattle.dump_model.proofs.WordLaws.{told-or}
use Rattle.transcript_read.specs.Refusals.{IsPlainRefusal, plain_name}
use Rattle.transcript_read.proofs.Chain.{word_takes}
use Rattle.transcript_read.proofs.RefusalNames.{plain_told}
use Rattle.transcript_read.proofs.cursor.Words.plain_refusal.Goals as goal

pub returns : goal.returns
returns c =
    word_takes plain_name IsPlainRefusal c.plain_of-told.result c.is_some.result c.unwrap_or.result c.word.result.now _ _ _ c.word.ensures.front
    (plain_told c.plain_of-told.result c.word.result.now c.plain_of-told.ensures) c.is_some.ensures
    (λ x is. told-or c.plain_of-told.result why.Ended c.unwrap_or.result x c.unwrap_or.ensures is) c.hold.ensures
