use Rattle.load_model.proofs.GivenSerials.{faults_are_given}
use Rattle.load_model.proofs.laws.faults_are_given.Goals as goal

pub returns : goal.returns
returns c = faults_are_given
