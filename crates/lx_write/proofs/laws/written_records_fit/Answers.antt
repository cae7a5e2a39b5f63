use Rattle.lx_write.proofs.RecordsWritten.{written_records_fit}
use Rattle.lx_write.proofs.laws.written_records_fit.Goals as goal

pub returns : goal.returns
returns c = written_records_fit
