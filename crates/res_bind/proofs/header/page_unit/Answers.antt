use Rattle.std.proofs.Common.{arith}
use Rattle.res_bind.proofs.Multiples.{power_most}
use Rattle.res_bind.proofs.header.page_unit.Goals as goal

pub returns-clause-most : goal.returns-clause-most
returns-clause-most c = let most = power_most c.args.shift c.requires in grind (arith, most)
