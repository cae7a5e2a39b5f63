use Rattle.byte_marks.proofs.Words.{with-bits}
use Rattle.byte_marks.proofs.word.with_all.Goals as goal

pub returns : goal.returns
returns c = with-bits c.args.word c.ones.result c.args.from c.args.past c.ones.ensures
