use Rattle.lx_fields.proofs.Doublewords.{doubleword_is_words}
use Rattle.std.proofs.Common.{arith}
use Rattle.lx_fields.proofs.totals.doubleword_at.Goals as goal

pub returns : goal.returns
returns c = grind (arith, doubleword_is_words c.args.file.now c.args.at)
