use Rattle.omf_model.proofs.ModuleLaws.{object_one, object_fault_one, object_either, object_not_both}
use Rattle.omf_model.proofs.laws.object_is_one.Goals as goal

pub returns-clause-module : goal.returns-clause-module
returns-clause-module c = object_one

pub returns-clause-fault : goal.returns-clause-fault
returns-clause-fault c = object_fault_one

pub returns-clause-either : goal.returns-clause-either
returns-clause-either c = object_either

pub returns-clause-apart : goal.returns-clause-apart
returns-clause-apart c = object_not_both
