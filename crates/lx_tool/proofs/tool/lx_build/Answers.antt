use Rattle.lx_tool.proofs.Endings.{ends_as_put}
use Rattle.lx_tool.proofs.RunEndings.{tells_of}
use Rattle.lx_tool.proofs.tool.lx_build.Goals as goal

pub returns-in-Ok-clause-ends : goal.returns-in-Ok-clause-ends
returns-in-Ok-clause-ends g c = ends_as_put _ _ _ _ _ c.in-Ok.told.said _ c.in-Ok.ensures c.put_said-status.ensures

pub returns-in-Ok-clause-tells : goal.returns-in-Ok-clause-tells
returns-in-Ok-clause-tells g c = tells_of c.in-Ok.told.refused c.in-Ok.told.said _ _ _ c.in-Ok.told.tied c.put_said-status.ensures
