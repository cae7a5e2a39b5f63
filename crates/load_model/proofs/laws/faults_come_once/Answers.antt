use Rattle.load_model.proofs.Growing.{fault_once}
use Rattle.load_model.proofs.laws.faults_come_once.Goals as goal

pub returns : goal.returns
returns c = fault_once
