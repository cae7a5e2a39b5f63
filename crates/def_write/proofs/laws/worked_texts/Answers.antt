use Rattle.std.proofs.Common.{refl}
use Rattle.std.specs.Fmt.{digits}
use Rattle.def_write.specs.Writing.{text_of}
use Rattle.def_write.proofs.laws.worked_texts.Goals as goal

pub returns : goal.returns
unfolding digits text_of
returns c = record { exports = refl; each_statement = refl }
