use Rattle.omf_model.proofs.PlacedLaws.{contents-fault, around-fault, record-fault}
use Rattle.omf_model.proofs.places.faults_lie_in_their_record.Goals as goal

pub returns-clause-around : goal.returns-clause-around
returns-clause-around c = around-fault

pub returns-clause-contents : goal.returns-clause-contents
returns-clause-contents c = contents-fault

pub returns-clause-record : goal.returns-clause-record
returns-clause-record c = record-fault
