use Rattle.std.proofs.Common.{sym, arith}
use Rattle.lx_head.proofs.Places.{cut_off}
use Rattle.lx_head.proofs.reading.is_lx.Goals as goal

pub returns-in_default : goal.returns-in_default
returns-in_default c = sym (cut_off c.args.bytes.now c.args.at (λ i. let byte = c.type_inv.bytes i in omega (arith, byte)) c.in_default.ensures)
