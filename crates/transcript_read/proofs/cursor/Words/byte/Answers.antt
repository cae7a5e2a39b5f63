use Rattle.lx_types.specs.Escaped.{hex_byte}
use Rattle.check_model.specs.Told.{IsByte}
use Rattle.dump_model.proofs.WordLaws.{told-or}
use Rattle.transcript_read.proofs.Chain.{word_takes}
use Rattle.transcript_read.proofs.cursor.Words.byte.Goals as goal

pub returns : goal.returns
returns c =
    word_takes hex_byte IsByte c.byte_in-told.result c.is_some.result c.unwrap_or.result c.word.result.now _ _ _ c.word.ensures.front c.byte_in-told.ensures c.is_some.ensures
    (λ x is. told-or c.byte_in-told.result 0 c.unwrap_or.result x c.unwrap_or.ensures is) c.hold.ensures
