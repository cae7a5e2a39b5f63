use Rattle.lx_iter.proofs.Unpacking.{packed_expands}
use Rattle.lx_iter.proofs.laws.packed_expands.Goals as goal

pub returns : goal.returns
returns c = packed_expands
