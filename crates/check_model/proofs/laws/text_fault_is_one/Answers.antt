use Rattle.check_model.proofs.FaultLines.{text_fault_is_one}
use Rattle.check_model.proofs.laws.text_fault_is_one.Goals as goal

pub returns : goal.returns
returns c = text_fault_is_one
