use Rattle.std.proofs.Common.{arith}
use Rattle.process_pages.proofs.Copies.{mapped_by_index, mapped_more}
use Rattle.process_pages.proofs.Positions.{cleared}
use Rattle.process_pages.proofs.page_rows.clear_rows.Goals as goal

pub loop-k-preserved : goal.loop-k-preserved
loop-k-preserved c = mapped_more cleared c.loop-k.rows c.args.rows.now c.loop-k.k _ _ c.loop-k.auto.rows (omega arith) c.clear.ensures c.loop-k.invariant

pub returns : goal.returns
returns c = mapped_by_index cleared c.loop-k.rows c.args.rows.now c.loop-k.auto.rows (λ i d u. c.loop-k.invariant.0 i d (omega arith) u)
