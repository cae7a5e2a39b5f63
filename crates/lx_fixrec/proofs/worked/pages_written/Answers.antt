use Rattle.std.proofs.Common.{refl}
use Rattle.lx_model.specs.JoinedRecords.{records_for}
use Rattle.lx_fixrec.proofs.worked.pages_written.Goals as goal

pub returns : goal.returns
unfolding records_for
returns c = record { listed = refl; page_end = refl; page_start = refl; wide = refl; alias = refl; own = refl }
