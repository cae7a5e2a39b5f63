use Rattle.script_laws.proofs.Carried.{scripts_are_run}
use Rattle.script_laws.proofs.laws.scripts_are_run.Goals as goal

pub returns : goal.returns
returns c = scripts_are_run c.account_goes_on.ensures.account c.accounts_merge.ensures
