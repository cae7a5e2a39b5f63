use Rattle.byte_marks.proofs.Words.{fresh}
use Rattle.byte_marks.proofs.page.Page.new.Goals as goal

pub returns : goal.returns
returns c = fresh
