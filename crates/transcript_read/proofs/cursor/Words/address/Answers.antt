use Rattle.lx_types.specs.Escaped.{hex_address}
use Rattle.check_model.specs.Told.{Has32}
use Rattle.dump_model.proofs.WordLaws.{told-or}
use Rattle.transcript_read.proofs.Chain.{word_takes}
use Rattle.transcript_read.proofs.cursor.Words.address.Goals as goal

pub returns : goal.returns
returns c =
    word_takes hex_address Has32 c.address_of-told.result c.is_some.result c.unwrap_or.result c.word.result.now _ _ _ c.word.ensures.front c.address_of-told.ensures c.is_some.ensures
    (λ x is. told-or c.address_of-told.result 0 c.unwrap_or.result x c.unwrap_or.ensures is) c.hold.ensures
