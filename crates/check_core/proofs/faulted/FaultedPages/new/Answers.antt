use Rattle.std.proofs.Common.{rules}
use Rattle.load_model.specs.Histories.{has_fault}
use Rattle.check_core.proofs.faulted.FaultedPages.new.Goals as goal

pub returns : goal.returns
unfolding has_fault
returns c serial page = search rules
