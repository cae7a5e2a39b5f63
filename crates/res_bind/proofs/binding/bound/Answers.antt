use Rattle.std.proofs.Common.{arith}
use Rattle.res_bind.proofs.Facts.{facts}
use Rattle.res_bind.proofs.binding.bound.Goals as goal

pub push_items-requires : goal.push_items-requires
push_items-requires c = let f = facts c.requires in omega (arith, f.size)
