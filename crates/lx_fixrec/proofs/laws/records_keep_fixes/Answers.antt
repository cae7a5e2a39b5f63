use Rattle.lx_fixrec.proofs.Permuted.{records_keep_fixes}
use Rattle.lx_fixrec.proofs.laws.records_keep_fixes.Goals as goal

pub returns : goal.returns
returns c = records_keep_fixes
