use Rattle.std.specs.Option.{option_map}
use Rattle.run_core.specs.Sessions.{run_in}
use Rattle.lx_start.proofs.Ending.{ends_with}
use Rattle.lx_start.proofs.run.Goals as goal

pub returns : goal.returns
returns g c = ends_with _ _ _ _ _ _ _ _ (option_map run_in c.lx_main-ended.result.ran) c.tell_on.ensures c.from.ensures c.lx_main-ended.ensures.ends
