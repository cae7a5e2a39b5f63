use Rattle.lx_write.proofs.TablesWritten.{written_tables_fit}
use Rattle.lx_write.proofs.laws.written_tables_fit.Goals as goal

pub returns : goal.returns
returns c = written_tables_fit
