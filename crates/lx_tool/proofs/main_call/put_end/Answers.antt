use Rattle.lx_tool.proofs.RunEndings.{puts_ran, puts_refused, tells_of}
use Rattle.lx_tool.proofs.main_call.put_end.Goals as goal

pub returns-in-Refused-clause-puts : goal.returns-in-Refused-clause-puts
returns-in-Refused-clause-puts g c = puts_refused c.args.end c.in-Refused.told _ _ _ _ c.in-Refused.is c.put_said-status.ensures

pub returns-in-Refused-clause-tells : goal.returns-in-Refused-clause-tells
returns-in-Refused-clause-tells g c = tells_of c.in-Refused.told.refused c.in-Refused.told.said _ _ _ c.in-Refused.told.tied c.put_said-status.ensures

pub returns-in-Ran-clause-puts : goal.returns-in-Ran-clause-puts
returns-in-Ran-clause-puts g c = puts_ran c.args.end c.in-Ran.ran c.in-Ran.library _ _ _ _ c.in-Ran.is c.as_slice.ensures c.put_text-status.ensures
