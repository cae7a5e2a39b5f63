use Rattle.process_pages.proofs.Copies.{AreMapped}
use Rattle.process_pages.proofs.Positions.{cleared}
use Rattle.process_pages.proofs.page_rows.clear_rows.Given as goal

abbrev pub invariant-loop-k : goal.invariant-loop-k
invariant-loop-k l = AreMapped cleared l.k l.rows l.initial.rows
