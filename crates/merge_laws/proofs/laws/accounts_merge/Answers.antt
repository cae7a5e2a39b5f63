use Rattle.merge_laws.proofs.Whole.{accounts_merge}
use Rattle.merge_laws.proofs.laws.accounts_merge.Goals as goal

pub returns : goal.returns
returns c = accounts_merge
