use Rattle.res_bind.proofs.Kept.{old_bytes_stand}
use Rattle.res_bind.proofs.laws.old_bytes_stand.Goals as goal

pub returns : goal.returns
returns c = old_bytes_stand
