use Rattle.byte_marks.proofs.Words.{ones-bits}
use Rattle.byte_marks.proofs.word.ones.Goals as goal

pub returns : goal.returns
returns c = ones-bits c.args.from c.args.past c.requires.some c.requires.fits
